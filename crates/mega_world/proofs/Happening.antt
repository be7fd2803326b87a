-- A world that makes an event happen stands as the run does afterwards.
use Rattle.std.proofs.Common.{◌≡◌, ◌⊎◌, ℕ, ◌+◌, ◌==◌, ◌≤◌, cond, Bool, true, false, List, [], ◌∷◌, ◌++◌, map, flat_map, length, Some, inl, inr, refl, sym, ap, ◌∙◌, subst, arith}
use Rattle.std.proofs.lemmas.Bool.Decides.{nat_tests}
use Rattle.std.specs.List.{All}
use Rattle.std.proofs.lemmas.List.Elements.{All-append, All-cons, All-nil}
use Rattle.mega_base.specs.Codec.{IsBetween}
use Rattle.mega_base.specs.declared.names.Epoch.{Epoch}
use Rattle.mega_cluster.specs.declared.cluster.Cluster.{Cluster}
use Rattle.mega_places.specs.of_durable.of_core.Served.{IsServed}
use Rattle.mega_places.specs.of_handler.Named.{Meanings}
use Rattle.mega_places.specs.of_leases.Taking.{IsByStranger, IsLate}
use Rattle.mega_wire.specs.declared.message.Message.{Message}
use Rattle.mega_wire.specs.declared.message.Body.{Body}
use Rattle.mega_wire.specs.declared.message.Body.TheVariants.{Where, Top, Accept, Accepted, Refused, Prepare, Promise, Invalidate, Invalidated, Dead, Held, Unheld, Decide, Fetch, Have, HaveNot, Acquire, Granted, Past, Request as Requested, Reply}
use Rattle.mega_wire.specs.Messages.{IsBody, greatest_from, kind_of, least_from}
use Rattle.mega_places.specs.of_promises.of_transcript.declared.item.Item.{Item}
use Rattle.mega_places.specs.of_promises.of_transcript.declared.item.Item.TheVariants.{Begin as BeginItem, Crash, Taken, Tick as TickItem}
use Rattle.mega_places.specs.of_promises.of_transcript.Lines.{HasLine}
use Rattle.mega_places.specs.of_promises.of_transcript.Tape.{newest, onto, sent_count}
use Rattle.mega_places.proofs.of_transcript.Tapes.{newest-append, onto-append}
use Rattle.mega_places.specs.of_voter.of_rules.Members.{is_node}
use Rattle.mega_places.specs.of_voter.of_rules.Met.{Begins, Crashes, Met}
use Rattle.mega_places.specs.of_voter.of_rules.Operations.{Node as RuleNode, Setting}
use Rattle.mega_places.specs.of_voter.of_rules.Steps.{Begin, Event, Step as RuleStep, Take, Tick, crashed, op_of, onto as met_onto, step}
use Rattle.mega_format_laws.specs.Nodes.{IsStep}
use Rattle.mega_places.specs.of_promises.Items.{number, numbered, shown}
use Rattle.mega_places.specs.of_promises.Messages.{is_unsafe, message_of}
use Rattle.mega_places.specs.of_promises.Runs.{Standing, at_node, by_fuse, has_lapsed, met_in, set_at, setting, whole_step, with_items}
use Rattle.mega_places.specs.of_durable.of_core.of_step_parts.declared.step.Step.{Step}
use Rattle.mega_places.specs.of_durable.of_core.of_step_parts.Notes.{met_of}
use Rattle.mega_safety.specs.declared.safety.Safety.{Safety}
use Rattle.mega_places.specs.declared.stepping.Stepped.{Stepped}
use Rattle.mega_places.specs.declared.stepping.Stepped.TheVariants as stepped
use Rattle.mega_world.specs.declared.world.World.{World}
use Rattle.mega_places.specs.Carries.{Carries}
use Rattle.mega_world.specs.Formed.{IsFormed}
use Rattle.mega_places.specs.Kept.{AreNodes}
use Rattle.mega_safety.specs.Lapses.{KnowsLeases}
use Rattle.mega_world.specs.Showing.{IsShown, IsStepped, LinesStep, ShowsCrash, ShowsStep}
use Rattle.mega_world.specs.Shown.{notes_shown}
use Rattle.mega_world.specs.AtRun.{StandsWith}
use Rattle.mega_places.specs.Stepping.{Comes, Falls, Makes, cut_off}
use Rattle.mega_places.proofs.Carrying.{shown_on}
use Rattle.mega_world.proofs.Events.{step_shows}
use Rattle.mega_world.proofs.Fates.{cut_tape, step_cut, step_whole}
use Rattle.mega_safety.proofs.Lapsing.{step_lapsed}
use Rattle.mega_world.proofs.Lining.{notes_lines, sent_lines}
use Rattle.mega_places.proofs.Plain.{with_append, with_sent}

-- an event's own items: they are no messages', show nothing of leases, and have lines
pub record AreOwn (c : Cluster) (own : List Item) : Type 0 where
  pub plain : (node : ℕ → RuleNode) (t : List Item) → with_items c node t own ≡ onto own t
  pub silent : (t : List Item) → sent_count (onto own t) ≡ sent_count t
  pub safe : (t : List Item) → is_unsafe (onto own t) ≡ is_unsafe t
  pub lines : All HasLine own

pub taken_own : (c : Cluster) (number : ℕ) → AreOwn c (Taken number ∷ [])
taken_own c number = record {
  plain = λ node t. refl;
  silent = λ t. refl;
  safe = λ t. refl;
  lines = All-cons HasLine (Taken number) [] tt (All-nil HasLine);
}

pub begun_own : (c : Cluster) (s : Setting) (node : RuleNode) (me : ℕ) (text : List ℕ) → AreOwn c (shown me (Begins (op_of s node.met) text))
begun_own c s node me text = record {
  plain = λ node t. refl;
  silent = λ t. refl;
  safe = λ t. refl;
  lines = All-cons HasLine (BeginItem (op_of s node.met) text) [] tt (All-nil HasLine);
}

-- a world one of whose nodes stepped, with the event's own items on the tape
pub record IsReady (now : Standing) (own : List Item) (old mid : World) (items here : List Item) : Type 0 where
  pub added : here ≡ items ++ own
  pub cluster : mid.cluster ≡ old.cluster
  pub carries : Carries mid.mail (onto own now.tape)
  pub safety : mid.safety ≡ old.safety

-- the tape is that of the run with the event's own items
here_tape : (now : Standing) (own items here : List Item) → newest items ≡ now.tape → here ≡ items ++ own → newest here ≡ onto own now.tape
here_tape now own items here tape is = ap newest is ∙ onto-append items own [] ∙ ap (onto own) tape

-- what is shown is what the rules' step shows
shown_tape : (c : Cluster) (now : Standing) (me : ℕ) (own here after : List Item) (made : Step) (ruled : RuleStep) → AreOwn c own → newest here ≡ onto own now.tape → map met_of made.notes ≡ ruled.notes → made.sends ≡ ruled.sends
    → newest after ≡ with_items c (set_at now.node me ruled.node) (newest here) (notes_shown me made.notes ++ numbered (sent_count (newest here) + 1) made.sends) → newest after ≡ (whole_step c now me own ruled).tape
shown_tape c now me own here after made ruled is tape notes sends shows =
    shows
    ∙ ap (λ t. with_items c next t (notes_shown me made.notes ++ numbered (sent_count t + 1) made.sends)) tape
    ∙ ap (λ n. with_items c next (onto own now.tape) (notes_shown me made.notes ++ numbered (n + 1) made.sends)) (is.silent now.tape)
    ∙ ap (λ ms. with_items c next (onto own now.tape) (notes_shown me made.notes ++ numbered (sent_count now.tape + 1) ms)) sends
    ∙ ap (λ ns. with_items c next (onto own now.tape) (flat_map (shown me) ns ++ numbered (sent_count now.tape + 1) ruled.sends)) notes
    ∙ with_append c next (flat_map (shown me) ruled.notes) (numbered (sent_count now.tape + 1) ruled.sends) (onto own now.tape)
    ∙ with_sent c next (sent_count now.tape + 1) ruled.sends (with_items c next (onto own now.tape) (flat_map (shown me) ruled.notes))
    ∙ sym (step_shows c now me own ruled is.plain)
  where
    next : ℕ → RuleNode
    next = set_at now.node me ruled.node

-- before the step is shown
stepped_is : (c : Cluster) (now : Standing) (me : ℕ) (own : List Item) (ruled : RuleStep) (old mid : World) (items here : List Item) (made : Step) → StandsWith c old items now → AreOwn c own
    → ((node : ℕ) (epoch : Epoch) → has_lapsed ruled.node.met node epoch ≡ has_lapsed (met_onto ruled.notes (now.node me).met) node epoch)
    → Makes c now me ruled mid.places.items made → IsReady now own old mid items here → IsStepped c mid me made.notes now.node (set_at now.node me ruled.node) (newest here)
stepped_is c now me own ruled old mid items here made r is lapses makes ready = record {
  nodes = (makes.nodes own).members;
  lapsed = λ cell node epoch. by (me == cell) cell node epoch;
  leases = subst (KnowsLeases mid.safety now.node) (sym (here_tape now own items here r.tape ready.added))
      (subst (λ (s : Safety). KnowsLeases s now.node (onto own now.tape)) (sym ready.safety) (record { lapses = r.leases.lapses; told = r.leases.told ∙ sym (is.safe now.tape) }));
  carries = subst (Carries mid.mail) (sym (here_tape now own items here r.tape ready.added)) ready.carries;
}
  where
    by : (t : Bool) (cell node : ℕ) (epoch : Epoch) → has_lapsed (cond t ruled.node (now.node cell)).met node epoch ≡ has_lapsed (cond t (met_onto (map met_of made.notes) (now.node me).met) (now.node cell).met) node epoch
    by true cell node epoch = lapses node epoch ∙ ap (λ notes. has_lapsed (met_onto notes (now.node me).met) node epoch) (sym makes.notes)
    by false cell node epoch = refl

-- a world that showed a step that is whole
shown_at : (c : Cluster) (h : Meanings) (now : Standing) (me : ℕ) (own : List Item) (event : Event) (old mid new : World) (items here after : List Item) (made : Step)
    → StandsWith c old items now → AreOwn c own → Makes c now me (step (setting c h me) (now.node me) event) mid.places.items made → IsReady now own old mid items here
    → ((was ruled : ℕ → RuleNode) → IsStepped c mid me made.notes was ruled (newest here) → IsShown c mid new me made ruled here after)
    → StandsWith c new after (whole_step c now me own (step (setting c h me) (now.node me) event))
shown_at c h now me own event old mid new items here after made r is makes ready show = record {
  cluster = shows.cluster ∙ ready.cluster ∙ r.cluster;
  served = r.served;
  nodes = subst (λ ps. AreNodes c ps.items (whole_step c now me own ruled)) (sym shows.places) (makes.nodes own);
  mail = subst (Carries new.mail) tape shows.carries;
  tape = tape;
  leases = subst (KnowsLeases new.safety (set_at now.node me ruled.node)) tape shows.leases;
}
  where
    ruled : RuleStep
    ruled = step (setting c h me) (now.node me) event

    shows : IsShown c mid new me made (set_at now.node me ruled.node) here after
    shows = show now.node (set_at now.node me ruled.node) (stepped_is c now me own ruled old mid items here made r is (step_lapsed (setting c h me) (now.node me) event) makes ready)

    tape : newest after ≡ (whole_step c now me own ruled).tape
    tape = shown_tape c now me own here after made ruled is (here_tape now own items here r.tape ready.added) makes.notes makes.sends shows.tape

-- a step that was cut off
own_lapses : (c : Cluster) (h : Meanings) (me : ℕ) (met : List Met) (event : Event) (node : ℕ) (epoch : Epoch) → has_lapsed (Crashes ∷ met_in (setting c h me) met event ∷ met) node epoch ≡ has_lapsed met node epoch
own_lapses c h me met (Tick clock) node epoch = refl
own_lapses c h me met (Take message) node epoch = refl
own_lapses c h me met (Begin request text) node epoch = refl

crashed_at : (c : Cluster) (h : Meanings) (now : Standing) (me : ℕ) (own : List Item) (event : Event) (old mid new : World) (items here after : List Item)
    → StandsWith c old items now → AreOwn c own → Falls c h now me event mid.places.items → IsReady now own old mid items here → ShowsCrash mid new me here after
    → StandsWith c new after (cut_off c h now me own event)
crashed_at c h now me own event old mid new items here after r is falls ready shows = record {
  cluster = ap (λ (w : World). w.cluster) shows.world ∙ ready.cluster ∙ r.cluster;
  served = r.served;
  nodes = subst (λ (w : World). AreNodes c w.places.items (cut_off c h now me own event)) (sym shows.world) (falls.nodes own);
  mail = subst (λ (w : World). Carries w.mail (cut_off c h now me own event).tape) (sym shows.world) (subst (Carries mid.mail) (sym tape) (shown_on mid.mail me Crashes (onto own now.tape) ready.carries));
  tape = ap newest shows.tape ∙ newest-append here (Crash (number me)) ∙ ap (λ t. Crash (number me) ∷ t) (here_tape now own items here r.tape ready.added) ∙ sym tape;
  leases = subst (λ (w : World). KnowsLeases w.safety next_nodes (cut_off c h now me own event).tape) (sym shows.world)
      (subst (λ (s : Safety). KnowsLeases s next_nodes (cut_off c h now me own event).tape) (sym ready.safety) (record {
        lapses = record { each = λ cell node epoch. r.leases.lapses.each cell node epoch ∙ lapsed cell node epoch (me == cell) refl };
        told = r.leases.told ∙ sym (is.safe now.tape) ∙ sym (ap is_unsafe tape);
      }));
}
  where
    next : RuleNode
    next = crashed (record { met = met_in (setting c h me) (now.node me).met event ∷ (now.node me).met; open_operations = []; stored = (now.node me).stored })

    next_nodes : ℕ → RuleNode
    next_nodes = set_at now.node me next

    tape : (cut_off c h now me own event).tape ≡ Crash (number me) ∷ onto own now.tape
    tape = cut_tape c h now me own event is.plain

    lapsed : (cell other : ℕ) (epoch : Epoch) (t : Bool) → (me == cell) ≡ t → has_lapsed (now.node cell).met other epoch ≡ has_lapsed (cond t next (now.node cell)).met other epoch
    lapsed cell other epoch true same = let e : me ≡ cell = grind (arith, nat_tests) in ap (λ k. has_lapsed (now.node k).met other epoch) (sym e) ∙ sym (own_lapses c h me (now.node me).met event other epoch)
    lapsed cell other epoch false apart = refl

-- ---- so a world stands after an event of a node, whatever its fuse made of the step
pub came_at : (c : Cluster) (h : Meanings) (now : Standing) (me : ℕ) (own : List Item) (event : Event) (old mid new : World) (items here after : List Item) (made : Stepped)
    → StandsWith c old items now → AreOwn c own → Comes c h now me event mid.places.items made → IsReady now own old mid items here → ShowsStep c mid new me made here after
    → StandsWith c new after (at_node c h now me own event (by_fuse now me))
came_at c h now me own event old mid new items here after (stepped.Made made) r is comes ready shows =
    subst (StandsWith c new after) (sym (step_whole c h now me own event comes.long)) (shown_at c h now me own event old mid new items here after made r is comes ready shows)
came_at c h now me own event old mid new items here after stepped.Cut r is comes ready shows =
    subst (StandsWith c new after) (sym (step_cut c h now me own event comes.short)) (crashed_at c h now me own event old mid new items here after r is comes ready shows)

-- and what it shows has lines
pub came_lined : (c : Cluster) (h : Meanings) (now : Standing) (me : ℕ) (own : List Item) (event : Event) (old mid : World) (items here after : List Item) (made : Stepped)
    → AreOwn c own → IsStep (step (setting c h me) (now.node me) event) → Comes c h now me event mid.places.items made → IsReady now own old mid items here → LinesStep mid me made here after → All HasLine items → All HasLine after
came_lined c h now me own event old mid items here after (stepped.Made made) is formed comes ready lines lined =
    lines (onto own now.tape) ready.carries (subst (All HasLine) (sym ready.added) (All-append HasLine items own lined is.lines))
    (subst (λ ns. All HasLine (flat_map (shown me) ns)) (sym comes.notes) (notes_lines me (step (setting c h me) (now.node me) event).notes formed.notes))
    (subst (λ ms. All HasLine (numbered (sent_count (onto own now.tape) + 1) ms)) (sym comes.sends) (sent_lines (sent_count (onto own now.tape) + 1) (step (setting c h me) (now.node me) event).sends formed.sends))
came_lined c h now me own event old mid items here after stepped.Cut is formed comes ready lines lined =
    lines (subst (All HasLine) (sym ready.added) (All-append HasLine items own lined is.lines))

-- ---- a delivery
no_stranger : (from : ℕ) (body : Body) → IsBetween (least_from (kind_of body)) (greatest_from (kind_of body)) from → IsBody body → IsByStranger from body → ⊥
no_stranger from (Acquire cell epoch clock) from_is body_is (inl low) = let least : 1 ≤ from = from_is.0 in omega (arith, least, low)
no_stranger from (Acquire cell epoch clock) from_is body_is (inr high) = let most : from ≤ 9 = from_is.1 in omega (arith, most, high)
no_stranger from (Dead op cell node) from_is body_is (inl low) = let least : 1 ≤ node.0 = body_is.1.1.0 in omega (arith, least, low)
no_stranger from (Dead op cell node) from_is body_is (inr high) = let most : node.0 ≤ 9 = body_is.1.1.1 in omega (arith, most, high)
no_stranger from (Where op group) from_is body_is stranger = stranger
no_stranger from (Top op group position) from_is body_is stranger = stranger
no_stranger from (Accept op group position ballot entry) from_is body_is stranger = stranger
no_stranger from (Accepted op group position ballot entry) from_is body_is stranger = stranger
no_stranger from (Refused op group position asked shown entry) from_is body_is stranger = stranger
no_stranger from (Prepare op group position ballot) from_is body_is stranger = stranger
no_stranger from (Promise op group position ballot accepted) from_is body_is stranger = stranger
no_stranger from (Invalidate op group position) from_is body_is stranger = stranger
no_stranger from (Invalidated op group position) from_is body_is stranger = stranger
no_stranger from (Held op cell node) from_is body_is stranger = stranger
no_stranger from (Unheld op cell node) from_is body_is stranger = stranger
no_stranger from (Decide group position entry) from_is body_is stranger = stranger
no_stranger from (Fetch op group position) from_is body_is stranger = stranger
no_stranger from (Have op group position entry) from_is body_is stranger = stranger
no_stranger from (HaveNot op group position) from_is body_is stranger = stranger
no_stranger from (Granted cell epoch clock) from_is body_is stranger = stranger
no_stranger from (Past cell asked greatest) from_is body_is stranger = stranger
no_stranger from (Requested token json) from_is body_is stranger = stranger
no_stranger from (Reply token text) from_is body_is stranger = stranger

-- nor is its lease past the last time that is counted
not_late : (c : Cluster) (body : Body) → c.lease ≤ 1000000000 → IsBody body → IsLate c body → ⊥
not_late c (Granted cell epoch clock) few body_is late = let most : clock ≤ 1000000000000 = body_is.1.1.1 in omega (arith, few, most, late)
not_late c (Acquire cell epoch clock) few body_is late = late
not_late c (Dead op cell node) few body_is late = late
not_late c (Where op group) few body_is late = late
not_late c (Top op group position) few body_is late = late
not_late c (Accept op group position ballot entry) few body_is late = late
not_late c (Accepted op group position ballot entry) few body_is late = late
not_late c (Refused op group position asked shown entry) few body_is late = late
not_late c (Prepare op group position ballot) few body_is late = late
not_late c (Promise op group position ballot accepted) few body_is late = late
not_late c (Invalidate op group position) few body_is late = late
not_late c (Invalidated op group position) few body_is late = late
not_late c (Held op cell node) few body_is late = late
not_late c (Unheld op cell node) few body_is late = late
not_late c (Decide group position entry) few body_is late = late
not_late c (Fetch op group position) few body_is late = late
not_late c (Have op group position entry) few body_is late = late
not_late c (HaveNot op group position) few body_is late = late
not_late c (Past cell asked greatest) few body_is late = late
not_late c (Requested token json) few body_is late = late
not_late c (Reply token text) few body_is late = late

-- so each message is taken
pub delivery_built : (c : Cluster) (now : Standing) (number : ℕ) (message : Message) → IsServed c → IsFormed now → message_of now.tape number ≡ Some message → IsByStranger message.from message.body ⊎ IsLate c message.body → ⊥
delivery_built c now number message served formed is (inl stranger) = let m = formed.messages number message is in no_stranger message.from message.body m.from m.body stranger
delivery_built c now number message served formed is (inr late) = let m = formed.messages number message is in not_late c message.body served.lease m.body late

-- ---- where a node is one of the cluster
pub is_there : (c : Cluster) (world : World) (items : List Item) (now : Standing) (me : ℕ) → StandsWith c world items now → 1 ≤ me → me ≤ length world.places.items → is_node c me ≡ true
is_there c world items now me r least most = let count = r.nodes.members.count in grind (arith, nat_tests)

pub ticked_own : (c : Cluster) (me clock : ℕ) → AreOwn c (TickItem (number me) clock ∷ [])
ticked_own c me clock = record {
  plain = λ node t. refl;
  silent = λ t. refl;
  safe = λ t. refl;
  lines = All-cons HasLine (TickItem (number me) clock) [] tt (All-nil HasLine);
}
