-- In every run the operations of a step act on logs whose rows are each group's own.
use Rattle.std.proofs.Common.{◌≡◌, not, ℕ, cond, Bool, true, false, List, [], ◌∷◌, ◌++◌, length, refl, sym, ap, ◌∙◌, ◌≤◌, subst, arith, Some, None}
use Rattle.std.proofs.lemmas.List.Sums.{fold-append}
use Rattle.mega_base.specs.declared.names.NodeId.{NodeId}
use Rattle.mega_cluster.specs.declared.cluster.Cluster.{Cluster}
use Rattle.mega_disk.specs.declared.pair.Device.TheVariants.{Log}
use Rattle.mega_wire.specs.declared.message.Message.{Message}
use Rattle.mega_handler.specs.Named.{Meanings}
use Rattle.mega_outcome.specs.declared.request.Request.{Request}
use Rattle.mega_run_laws.specs.of_tape_laws.of_promises.of_schedule.declared.world_event.WorldEvent.{WorldEvent}
use Rattle.mega_run_laws.specs.of_tape_laws.of_promises.of_schedule.declared.world_event.WorldEvent.TheVariants.{Tick as TickEvent, Deliver, Drop, Drain, Crash as CrashEvent, Start as StartEvent, Fuse as FuseEvent, Begin as BeginEvent}
use Rattle.mega_run_laws.specs.of_tape_laws.of_promises.of_transcript.declared.item.Item.{Item}
use Rattle.mega_run_laws.specs.of_tape_laws.of_promises.of_transcript.declared.item.Item.TheVariants.{Taken}
use Rattle.mega_run_laws.specs.of_tape_laws.of_promises.of_rules.Met.{Met, Begins, Ticks}
use Rattle.mega_run_laws.specs.of_tape_laws.of_promises.of_rules.Members.{is_node}
use Rattle.mega_run_laws.specs.of_tape_laws.of_promises.of_rules.Logs.{log_of}
use Rattle.mega_run_laws.specs.of_tape_laws.of_promises.of_rules.Steps.{Begin, Event, Step, Take, Tick, op_of, step}
use Rattle.mega_run_laws.specs.of_tape_laws.of_promises.Items.{shown}
use Rattle.mega_run_laws.specs.of_tape_laws.of_promises.Messages.{message_of}
use Rattle.mega_run_laws.specs.of_tape_laws.of_promises.Runs.{Cuts, Happening, Standing, Whole, after_event, at_node, because, fused, goes_on, handed, is_burning, new_fuse, opening, refusal, setting, unless_refused, whole_step}
use Rattle.mega_node_laws.specs.Acted.{acted_on}
use Rattle.mega_node_laws.specs.Own.{HasOwnRows}
use Rattle.mega_node_laws.proofs.Ending.{step_ends}
use Rattle.mega_node_laws.proofs.Owned.{owned_of_same_logs}
use Rattle.mega_run_laws.specs.of_tape_laws.Indexed.{IsDeclared}
use Rattle.mega_run_laws.specs.of_tape_laws.Writes.{Usage}
use Rattle.mega_run_laws.proofs.of_tape_laws.Ballots.{number_self}
use Rattle.mega_run_laws.specs.Usages.{Fits, FitsOne}
use Rattle.mega_run_laws.proofs.Events.{each_append}
use Rattle.mega_row_laws.proofs.Nodes.{node_owns}
use Rattle.mega_row_laws.proofs.Uncut.{behind_is, goes_same, run_nodes, step_whole, until}

refusal_fused : (c : Cluster) (now : Standing) (me calls image : ℕ) (event : WorldEvent) → refusal c (fused now me calls image Log) event ≡ refusal c now event
refusal_fused c now me calls image (TickEvent node clock) = refl
refusal_fused c now me calls image (Deliver k) = refl
refusal_fused c now me calls image (Drop k) = refl
refusal_fused c now me calls image (Drain most) = refl
refusal_fused c now me calls image (CrashEvent node) = refl
refusal_fused c now me calls image (StartEvent node) = refl
refusal_fused c now me calls image (FuseEvent node others kind device) = refl
refusal_fused c now me calls image (BeginEvent node request text) = refl

-- an event that comes next is not refused, and is a step of a node with this item of its own
record Comes (c : Cluster) (h : Meanings) (now : Standing) (me : ℕ) (own : Standing → List Item) (event : Event) (one : WorldEvent) : Type 0 where
  allowed : refusal c now one ≡ None
  leads : (cuts : Cuts) (ready : Standing) → ready.tape ≡ now.tape → after_event c h cuts ready one ≡ at_node c h ready me (own ready) event (cuts ready me)

module _ (c : Cluster) (usage : Usage) (declared : IsDeclared c.schema) (first : Meanings) (cuts : Cuts) (events : List Happening) (fits : Fits usage events) where
  abbrev now : Standing
  now = goes_on c cuts (opening c first) events

  abbrev later : Cuts
  later = until (length now.tape) cuts

  -- the run goes on with these events
  ready_owns : (h : Meanings) (me : ℕ) (own : Standing → List Item) (event : Event) (one : WorldEvent) → FitsOne usage (record { handlers = h; event = one }) → (before : List Happening) → Fits usage before
      → (ready : Standing) → goes_on c later now before ≡ ready → refusal c ready one ≡ None
      → after_event c h later ready one ≡ whole_step c ready me (own ready) (step (setting c h me) (ready.node me) event)
      → HasOwnRows c.schema (log_of (acted_on (setting c h me) (ready.node me) event))
  ready_owns h me own event one meant before brought ready is allowed whole =
      owned_of_same_logs c.schema (acted_on (setting c h me) (ready.node me) event) made.node.met (step_ends (setting c h me) (ready.node me) event)
      (subst (λ (met : List Met). HasOwnRows c.schema (log_of met)) (ap (λ (s : Standing). (s.node me).met) path ∙ ap (λ t. (cond t made.node (ready.node me)).met) (number_self me))
      (node_owns c usage first later (events ++ (before ++ next ∷ [])) me declared (each_append (FitsOne usage) events (before ++ next ∷ []) fits (each_append (FitsOne usage) before (next ∷ []) brought (meant, tt)))))
    where
      next : Happening
      next = record { handlers = h; event = one }

      made : Step
      made = step (setting c h me) (ready.node me) event

      happens : Standing → Happening → Standing
      happens s that = unless_refused s (after_event c that.handlers later s that.event) (refusal c s that.event)

      path : goes_on c later (opening c first) (events ++ (before ++ next ∷ [])) ≡ whole_step c ready me (own ready) made
      path =
          fold-append happens (opening c first) events (before ++ next ∷ [])
          ∙ ap (λ s. goes_on c later s (before ++ next ∷ [])) (goes_same c (length now.tape) cuts events (opening c first) (omega arith))
          ∙ fold-append happens now before (next ∷ [])
          ∙ ap (λ s. goes_on c later s (next ∷ [])) is
          ∙ ap (unless_refused ready (after_event c h later ready one)) allowed
          ∙ whole

  -- a node's own fuse is set anew, where it could be set
  step_owns : (h : Meanings) (me : ℕ) (own : Standing → List Item) (event : Event) (one : WorldEvent) → FitsOne usage (record { handlers = h; event = one }) → Comes c h now me own event one
      → HasOwnRows c.schema (log_of (acted_on (setting c h me) (now.node me) event))
  step_owns h me own event one meant comes = by (is_node c me) refl
    where
      whole : (ready : Standing) → ready.tape ≡ now.tape → is_burning (ready.log_fuse me) ≡ false → after_event c h later ready one ≡ whole_step c ready me (own ready) (step (setting c h me) (ready.node me) event)
      whole ready same free =
          comes.leads later ready same
          ∙ step_whole c h ready me (own ready) event (later ready me) (behind_is (length now.tape) cuts ready me (subst (λ (tape : List Item). length now.tape ≤ length tape) (sym same) (omega arith))) free

      fuse : Happening
      fuse = record { handlers = h; event = FuseEvent (record { 0 = me }) 4 0 Log }

      by : (t : Bool) → is_node c me ≡ t → HasOwnRows c.schema (log_of (acted_on (setting c h me) (now.node me) event))
      by true at =
          ready_owns h me own event one meant (fuse ∷ []) (record { brought = meant.brought; meant = tt }, tt) (fused now me 4 0 Log)
          (ap (λ t. unless_refused now (fused now me 4 0 Log) (because (not t) 6 None)) at)
          (refusal_fused c now me 4 0 one ∙ comes.allowed)
          (whole (fused now me 4 0 Log) refl (ap (λ t. is_burning (cond t (new_fuse 4 0) (now.log_fuse me))) (number_self me)))
      by false at =
          ready_owns h me own event one meant [] tt now refl comes.allowed
          (whole now refl (ap is_burning (run_nodes c first cuts events me at)))

  pub tick_owns : (h : Meanings) (node : NodeId) (clock : ℕ) → FitsOne usage (record { handlers = h; event = TickEvent node clock }) → refusal c now (TickEvent node clock) ≡ None
      → HasOwnRows c.schema (log_of (acted_on (setting c h node.0) (now.node node.0) (Tick clock)))
  tick_owns h node clock meant allowed =
      step_owns h node.0 (λ ready. shown node.0 (Ticks clock)) (Tick clock) (TickEvent node clock) meant (record { allowed = allowed; leads = λ those ready same. refl })

  pub take_owns : (h : Meanings) (k : ℕ) (message : Message) → FitsOne usage (record { handlers = h; event = Deliver k }) → refusal c now (Deliver k) ≡ None → message_of now.tape k ≡ Some message
      → HasOwnRows c.schema (log_of (acted_on (setting c h message.to) (now.node message.to) (Take message)))
  take_owns h k message meant allowed is =
      step_owns h message.to (λ ready. Taken k ∷ []) (Take message) (Deliver k) meant
      (record { allowed = allowed; leads = λ those ready same. ap (handed c h those ready k) (ap (λ tape. message_of tape k) same ∙ is) })

  pub begin_owns : (h : Meanings) (node : NodeId) (request : Request) (text : List ℕ) → FitsOne usage (record { handlers = h; event = BeginEvent node request text }) → refusal c now (BeginEvent node request text) ≡ None
      → HasOwnRows c.schema (log_of (acted_on (setting c h node.0) (now.node node.0) (Begin request text)))
  begin_owns h node request text meant allowed =
      step_owns h node.0 (λ ready. shown node.0 (Begins (op_of (setting c h node.0) (ready.node node.0).met) text)) (Begin request text) (BeginEvent node request text) meant
      (record { allowed = allowed; leads = λ those ready same. refl })
