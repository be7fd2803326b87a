-- Every run stays within its cluster: its messages are between nodes, and so is all that a node met.
use Rattle.std.proofs.Common.{◌≡◌, inl, inr, ℕ, zero, suc, ◌+◌, ◌==◌, ◌≤◌, Bool, true, false, not, cond, List, [], ◌∷◌, ◌++◌, filter, flat_map, fold, length, map, Option, Some, None, refl, sym, ap, ◌∙◌, subst}
use Rattle.std.proofs.lemmas.Bool.{not-false}
use Rattle.mega_cluster.specs.declared.cluster.Cluster.{Cluster}
use Rattle.mega_disk.specs.declared.pair.Device.TheVariants.{Log, Data}
use Rattle.mega_handler.specs.Named.{Meanings}
use Rattle.mega_wire.specs.declared.message.Message.{Message}
use Rattle.mega_member_laws.specs.Messages.{AreWithin, IsWithin}
use Rattle.mega_member_laws.specs.Nodes.{EventWithin, ItemWithin, MetWithin, StaysWithin, StepWithin}
use Rattle.mega_member_laws.proofs.Replies.{reply_within}
use Rattle.mega_member_laws.proofs.Steps.{crash_within, started, step_within}
use Rattle.mega_leased_laws.specs.of_run_laws.of_tape_laws.of_promises.of_schedule.declared.world_event.WorldEvent.{WorldEvent}
use Rattle.mega_leased_laws.specs.of_run_laws.of_tape_laws.of_promises.of_schedule.declared.world_event.WorldEvent.TheVariants.{Tick as TickEvent, Deliver, Drop, Drain, Crash as CrashEvent, Start as StartEvent, Fuse as FuseEvent, Begin as BeginEvent}
use Rattle.mega_leased_laws.specs.of_run_laws.of_tape_laws.of_promises.of_transcript.declared.item.Item.{Item}
use Rattle.mega_leased_laws.specs.of_run_laws.of_tape_laws.of_promises.of_transcript.declared.item.Item.TheVariants.{Begin as BeginItem, Cut as CutItem, Dropped, Taken, Tick as TickItem}
use Rattle.mega_leased_laws.specs.of_run_laws.of_tape_laws.of_promises.of_transcript.Tape.{sent_count}
use Rattle.mega_leased_laws.specs.of_run_laws.of_tape_laws.of_promises.of_rules.Members.{is_node, nodes}
use Rattle.mega_leased_laws.specs.of_run_laws.of_tape_laws.of_promises.of_rules.Met.{Met, Crashes, Unsends}
use Rattle.mega_leased_laws.specs.of_run_laws.of_tape_laws.of_promises.of_rules.Operations.{Node}
use Rattle.mega_leased_laws.specs.of_run_laws.of_tape_laws.of_promises.of_rules.Steps.{Begin, Event, Step, Take, Tick, crashed, op_of, start, start_items, step}
use Rattle.mega_leased_laws.specs.of_run_laws.of_tape_laws.of_promises.Items.{number, shown}
use Rattle.mega_leased_laws.specs.of_run_laws.of_tape_laws.of_promises.Messages.{message_of, next_delivery}
use Rattle.mega_leased_laws.specs.of_run_laws.of_tape_laws.of_promises.Runs.{Calls, Cuts, CutByData, CutByLog, Fate, Happening, Standing, Whole, after_event, at_node, calls_of, delivered, drained, fate_by, fated, fated_start, goes_on, handed, is_durable, is_kept, marked, met_in, nothing_yet, opening, owes, refusal, replies_in, set_at, setting, start_calls, unless_none, unless_refused, up, with_item, with_items}
use Rattle.mega_leased_laws.proofs.of_run_laws.Shown.{notes_plain}
use Rattle.mega_leased_laws.proofs.of_run_laws.Runs.{not_because}
use Rattle.mega_calm_laws.proofs.Mail.{Among, crash_shown, message_items, message_step}

pub record StaysIn (c : Cluster) (now : Standing) : Type 0 where
  pub nodes : (v : ℕ) → StaysWithin c (now.node v)
  pub owed : (v : ℕ) → MetWithin c (now.owed v)
  pub messages : (k : ℕ) (m : Message) → message_of now.tape k ≡ Some m → IsWithin c m

within_among : (c : Cluster) (m : Message) (ms : List Message) → AreWithin c ms → Among m ms → IsWithin c m
within_among c m [] h i = absurd i
within_among c m (x ∷ ms) h (inl e) = subst (IsWithin c) e h.0
within_among c m (x ∷ ms) h (inr i) = within_among c m ms h.1 i

both_in : (c : Cluster) (xs ys : List Met) → MetWithin c xs → MetWithin c ys → MetWithin c (xs ++ ys)
both_in c [] ys h k = k
both_in c (x ∷ xs) ys h k = (h.0, both_in c xs ys h.1 k)

durable_in : (c : Cluster) (notes : List Met) → MetWithin c notes → MetWithin c (filter is_durable notes)
durable_in c [] h = tt
durable_in c (one ∷ notes) h = by (is_durable one) (durable_in c notes h.1)
  where
    by : (t : Bool) → MetWithin c (filter is_durable notes) → MetWithin c (cond t (one ∷ filter is_durable notes) (filter is_durable notes))
    by true rest = (h.0, rest)
    by false rest = rest

unsent_in : (c : Cluster) (ms : List Message) → AreWithin c ms → MetWithin c (map Unsends ms)
unsent_in c [] h = tt
unsent_in c (m ∷ ms) h = (h.0, unsent_in c ms h.1)

owes_in : (c : Cluster) (made : Step) (replies : List Message) → StepWithin c made → AreWithin c replies → MetWithin c (owes made replies)
owes_in c made replies s r = both_in c (filter is_durable made.notes) (map Unsends replies) (durable_in c made.notes s.notes) (unsent_in c replies r)

module _ (c : Cluster) (few : c.cells ≤ length c.nodes) where
  set_in : (f : ℕ → Node) (me : ℕ) (node : Node) → ((v : ℕ) → StaysWithin c (f v)) → StaysWithin c node → (v : ℕ) → StaysWithin c (set_at f me node v)
  set_in f me node h new v = by (me == v)
    where
      by : (t : Bool) → StaysWithin c (cond t node (f v))
      by true = new
      by false = h v

  set_owed : (f : ℕ → List Met) (me : ℕ) (owed : List Met) → ((v : ℕ) → MetWithin c (f v)) → MetWithin c owed → (v : ℕ) → MetWithin c (set_at f me owed v)
  set_owed f me owed h new v = by (me == v)
    where
      by : (t : Bool) → MetWithin c (cond t owed (f v))
      by true = new
      by false = h v

  kept_in : (t : Bool) (made : Step) (replies : List Message) → StepWithin c made → AreWithin c replies → MetWithin c (cond t (owes made replies) [])
  kept_in true made replies s r = owes_in c made replies s r
  kept_in false made replies s r = tt

  abbrev pub fallen : Standing → ℕ → Met → Node
  fallen now me met = crashed (record { met = met ∷ (now.node me).met; open_operations = []; stored = (now.node me).stored })

  pub fated_in : (now : Standing) (me : ℕ) (own : Item) (met : Met) (made : Step) (replies : List Message) (fate : Fate) → StaysIn c now → ((n : ℕ → Node) → with_item c n now.tape own ≡ own ∷ now.tape)
      → ((k : ℕ) → message_of (own ∷ now.tape) k ≡ message_of now.tape k) → StepWithin c made → ItemWithin c met → AreWithin c replies → StaysIn c (fated c now me (own ∷ []) met made replies fate)
  fated_in now me own met made replies Whole h plain same s met_in replies_within = record {
    nodes = set_in now.node me made.node h.nodes s.node;
    owed = h.owed;
    messages = λ k m is. elim (message_step c (set_at now.node me made.node) me now.tape own made.notes made.sends (plain (set_at now.node me made.node)) same (sent_count now.tape + 1) k m is) [
      | inl early ↦ h.messages k m early
      | inr i ↦ within_among c m made.sends s.sends i
    ];
  }
  fated_in now me own met made replies (CutByLog left) h plain same s met_in replies_within = record {
    nodes = set_in now.node me (fallen now me met) h.nodes (crash_within c (record { met = met ∷ (now.node me).met; open_operations = []; stored = (now.node me).stored }) (record { met = (met_in, (h.nodes me).met); open_operations = tt }));
    owed = set_owed now.owed me (cond (is_kept left) (owes made replies) []) h.owed (kept_in (is_kept left) made replies s replies_within);
    messages = λ k m is. h.messages k m (sym (same k) ∙ (sym (message_items c (set_at now.node me (fallen now me met)) (shown me Crashes) (own ∷ now.tape) (crash_shown me) k) ∙ (ap (λ t. message_of (with_items c (set_at now.node me (fallen now me met)) t (shown me Crashes)) k) (sym (plain (set_at now.node me (fallen now me met)))) ∙ is)));
  }
  fated_in now me own met made replies (CutByData left) h plain same s met_in replies_within = record {
    nodes = set_in now.node me (fallen now me met) h.nodes (crash_within c (record { met = met ∷ (now.node me).met; open_operations = []; stored = (now.node me).stored }) (record { met = (met_in, (h.nodes me).met); open_operations = tt }));
    owed = set_owed now.owed me [] h.owed tt;
    messages = λ k m is. h.messages k m (sym (same k) ∙ (sym (message_items c (set_at now.node me (fallen now me met)) (shown me Crashes) (own ∷ now.tape) (crash_shown me) k) ∙ (ap (λ t. message_of (with_items c (set_at now.node me (fallen now me met)) t (shown me Crashes)) k) (sym (plain (set_at now.node me (fallen now me met)))) ∙ is)));
  }

  at_node_in : (h : Meanings) (now : Standing) (me : ℕ) (own : Item) (event : Event) (cut : Calls → Fate) → is_node c me ≡ true → StaysIn c now → ((n : ℕ → Node) → with_item c n now.tape own ≡ own ∷ now.tape)
      → ((k : ℕ) → message_of (own ∷ now.tape) k ≡ message_of now.tape k) → EventWithin c event → ItemWithin c (met_in (setting c h me) (now.node me).met event) → AreWithin c (replies_in c me (now.node me).met event)
      → StaysIn c (at_node c h now me (own ∷ []) event cut)
  at_node_in h now me own event cut here stays plain same within met replies =
      fated_in now me own (met_in (setting c h me) (now.node me).met event) (step (setting c h me) (now.node me) event) (replies_in c me (now.node me).met event)
      (fate_by now me cut (calls_of c h now me event (step (setting c h me) (now.node me) event))) stays plain same (step_within (setting c h me) (now.node me) event here few (stays.nodes me) within) met replies

  handed_in : (h : Meanings) (cuts : Cuts) (now : Standing) (j : ℕ) (o : Option Message) → message_of now.tape j ≡ o → StaysIn c now → StaysIn c (handed c h cuts now j o)
  handed_in h cuts now j None is stays = stays
  handed_in h cuts now j (Some m) is stays = at_node_in h now m.to (Taken j) (Take m) (cuts now m.to) within.to stays (λ nodes'. refl) (λ k. refl) within within (reply_within c m.to (now.node m.to).met m within.to (stays.nodes m.to).met within)
    where
      within : IsWithin c m
      within = stays.messages j m is

  marked_in : (now : Standing) (item : Item) → ((k : ℕ) → message_of (item ∷ now.tape) k ≡ message_of now.tape k) → StaysIn c now → StaysIn c (marked now item)
  marked_in now item same stays = record { nodes = stays.nodes; owed = stays.owed; messages = λ k m is. stays.messages k m (sym (same k) ∙ is) }

  drained_in : (h : Meanings) (cuts : Cuts) (most : ℕ) (now : Standing) → StaysIn c now → StaysIn c (drained c h cuts now most)
  drained_in h cuts zero now stays = go (next_delivery (up now) now.tape)
    where
      go : (o : Option ℕ) → StaysIn c (unless_none now (λ j. marked now CutItem) o)
      go None = stays
      go (Some j) = marked_in now CutItem (λ k. refl) stays
  drained_in h cuts (suc most) now stays = go (next_delivery (up now) now.tape) (λ j. drained_in h cuts most (delivered c h cuts now j))
    where
      go : (o : Option ℕ) → ((j : ℕ) → StaysIn c (delivered c h cuts now j) → StaysIn c (drained c h cuts (delivered c h cuts now j) most)) → StaysIn c (unless_none now (λ j. drained c h cuts (delivered c h cuts now j) most) o)
      go None more = stays
      go (Some j) more = more j (handed_in h cuts now j (message_of now.tape j) refl stays)

  crashed_in : (now : Standing) (me : ℕ) → StaysIn c now → (v : ℕ) → StaysWithin c (set_at now.node me (crashed (now.node me)) v)
  crashed_in now me stays = set_in now.node me (crashed (now.node me)) stays.nodes (crash_within c (now.node me) (stays.nodes me))

  started_in : (h : Meanings) (now : Standing) (me : ℕ) (fate : Fate) → StaysIn c now → StaysIn c (fated_start c h now me fate)
  started_in h now me Whole stays = record {
    nodes = set_in now.node me (start (setting c h me) (now.starts me + 1) (now.owed me) (now.node me).met) stays.nodes (started (setting c h me) (now.starts me + 1) (now.owed me) (now.node me).met (stays.owed me) (stays.nodes me).met);
    owed = set_owed now.owed me [] stays.owed tt;
    messages = λ k m is. stays.messages k m (sym (message_items c (set_at now.node me (start (setting c h me) (now.starts me + 1) (now.owed me) (now.node me).met)) (flat_map (shown me) (start_items (setting c h me) (now.starts me + 1) (now.owed me) (now.node me).met)) now.tape
        (notes_plain me (start_items (setting c h me) (now.starts me + 1) (now.owed me) (now.node me).met)) k) ∙ is);
  }
  started_in h now me (CutByLog left) stays = record { nodes = crashed_in now me stays; owed = stays.owed; messages = λ k m is. stays.messages k m is }
  started_in h now me (CutByData left) stays = record { nodes = crashed_in now me stays; owed = stays.owed; messages = λ k m is. stays.messages k m is }

  event_in : (h : Meanings) (cuts : Cuts) (now : Standing) (event : WorldEvent) → refusal c now event ≡ None → StaysIn c now → StaysIn c (after_event c h cuts now event)
  event_in h cuts now (TickEvent node clock) r stays = at_node_in h now node.0 (TickItem (number node.0) clock) (Tick clock) (cuts now node.0) (not-false (is_node c node.0) (not_because (not (is_node c node.0)) 6 _ r).0) stays (λ nodes'. refl) (λ k. refl) tt tt tt
  event_in h cuts now (Deliver j) r stays = handed_in h cuts now j (message_of now.tape j) refl stays
  event_in h cuts now (Drop j) r stays = marked_in now (Dropped j) (λ k. refl) stays
  event_in h cuts now (Drain most) r stays = drained_in h cuts most now stays
  event_in h cuts now (CrashEvent node) r stays = record { nodes = crashed_in now node.0 stays; owed = stays.owed; messages = λ k m is. stays.messages k m is }
  event_in h cuts now (StartEvent node) r stays = started_in h now node.0 (fate_by now node.0 (cuts now node.0) (start_calls c node.0)) stays
  event_in h cuts now (FuseEvent node calls image Log) r stays = record { nodes = stays.nodes; owed = stays.owed; messages = stays.messages }
  event_in h cuts now (FuseEvent node calls image Data) r stays = record { nodes = stays.nodes; owed = stays.owed; messages = stays.messages }
  event_in h cuts now (BeginEvent node request text) r stays = at_node_in h now node.0 (BeginItem (op_of (setting c h node.0) (now.node node.0).met) text) (Begin request text) (cuts now node.0) (not-false (is_node c node.0) (not_because (not (is_node c node.0)) 6 _ r).0) stays (λ nodes'. refl) (λ k. refl) tt tt tt

  all_in : (cuts : Cuts) (events : List Happening) (now : Standing) → StaysIn c now → StaysIn c (goes_on c cuts now events)
  all_in cuts [] now stays = stays
  all_in cuts (one ∷ events) now stays = all_in cuts events (unless_refused now (after_event c one.handlers cuts now one.event) (refusal c now one.event)) (go (refusal c now one.event) refl)
    where
      go : (o : Option ℕ) → refusal c now one.event ≡ o → StaysIn c (unless_refused now (after_event c one.handlers cuts now one.event) o)
      go None r = event_in one.handlers cuts now one.event r stays
      go (Some why) r = stays

  opened_in : (h : Meanings) (those : List ℕ) (now : Standing) → StaysIn c now → StaysIn c (fold (λ now me. fated_start c h now me Whole) now those)
  opened_in h [] now stays = stays
  opened_in h (me ∷ those) now stays = opened_in h those (fated_start c h now me Whole) (started_in h now me Whole stays)

  pub run_in : (cuts : Cuts) (first : Meanings) (events : List Happening) → StaysIn c (goes_on c cuts (opening c first) events)
  run_in cuts first events = all_in cuts events (opening c first) (opened_in first (nodes c) nothing_yet (record { nodes = λ v. record { met = tt; open_operations = tt }; owed = λ v. tt; messages = λ k m is. cc }))
