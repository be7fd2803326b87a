-- In every run an operation tells a node to invalidate a position only where a majority accepted some entry there.
use Rattle.std.proofs.Common.{◌≡◌, ℕ, ◌+◌, Bool, true, false, cond, List, [], ◌∷◌, ◌++◌, fold, flat_map, map, Option, Some, None, refl, sym, subst}
use Rattle.std.specs.List.{All}
use Rattle.std.proofs.lemmas.List.Elements.{All-append, All-cons, All-nil, All-weaker}
use Rattle.mega_base.specs.declared.names.Epoch.{Epoch}
use Rattle.mega_base.specs.declared.names.GroupId.{GroupId}
use Rattle.mega_base.specs.declared.names.OpId.{OpId}
use Rattle.mega_base.specs.declared.names.Position.{Position}
use Rattle.mega_ballot.specs.declared.ballot.Ballot.{Ballot}
use Rattle.mega_cluster.specs.declared.cluster.Cluster.{Cluster}
use Rattle.mega_coordinator.specs.declared.answers.NotValid.{NotValid}
use Rattle.mega_entry.specs.declared.content.Content.{Content}
use Rattle.mega_entry.specs.declared.content.Enter.{Enter}
use Rattle.mega_handler.specs.Named.{Meanings}
use Rattle.mega_outcome.specs.declared.answer.Answer.{Answer}
use Rattle.mega_outcome.specs.declared.request.Request.{Request}
use Rattle.mega_lease_laws.specs.of_run_laws.of_tape_laws.of_promises.of_rules.of_read.of_propose.declared.round.Cover.{Cover}
use Rattle.mega_lease_laws.specs.of_run_laws.of_tape_laws.of_promises.of_rules.of_read.of_propose.declared.round.Proposal.{Proposal}
use Rattle.mega_lease_laws.specs.of_run_laws.of_tape_laws.of_promises.of_rules.of_read.of_propose.declared.round.Round.TheVariants.{Covering}
use Rattle.mega_lease_laws.specs.of_run_laws.of_tape_laws.of_promises.of_rules.of_read.of_propose.declared.round.Site.{Site}
use Rattle.mega_lease_laws.specs.of_run_laws.of_tape_laws.of_promises.of_rules.of_read.of_propose.Rounds.{asks, due}
use Rattle.mega_lease_laws.specs.of_run_laws.of_tape_laws.of_promises.of_rules.of_read.declared.reading.Search.{Search}
use Rattle.mega_lease_laws.specs.of_run_laws.of_tape_laws.of_promises.of_rules.of_read.declared.reading.Stage.TheVariants.{Catching}
use Rattle.mega_lease_laws.specs.of_run_laws.of_tape_laws.of_promises.of_rules.of_read.declared.reading.Reader.{Reader}
use Rattle.mega_lease_laws.specs.of_run_laws.of_tape_laws.of_promises.of_rules.of_read.Catching.{asked_by, fetches, seeks, site}
use Rattle.mega_wire.specs.declared.message.Message.{Message}
use Rattle.mega_wire.specs.declared.message.Body.{Body}
use Rattle.mega_wire.specs.declared.message.Body.TheVariants.{Invalidate, Where}
use Rattle.mega_lease_laws.specs.of_run_laws.of_tape_laws.of_promises.of_transcript.declared.item.Item.{Item}
use Rattle.mega_lease_laws.specs.of_run_laws.of_tape_laws.of_promises.of_transcript.declared.item.Item.TheVariants.{Sent}
use Rattle.mega_lease_laws.specs.of_run_laws.of_tape_laws.of_promises.of_transcript.Tape.{sent_count}
use Rattle.mega_lease_laws.specs.of_run_laws.of_tape_laws.of_promises.Items.{shown}
use Rattle.mega_lease_laws.specs.of_run_laws.of_tape_laws.of_promises.Runs.{Happening, IsRun, Standing, set_at, setting, with_items}
use Rattle.mega_lease_laws.specs.of_run_laws.of_tape_laws.of_promises.of_rules.Met.{Met, Begins, Takes, Ticks}
use Rattle.mega_lease_laws.specs.of_run_laws.of_tape_laws.of_promises.of_rules.Clock.{begun_of, clock_of, start_of}
use Rattle.mega_lease_laws.specs.of_run_laws.of_tape_laws.of_promises.of_rules.Coordinators.{acquires_at, refused_at}
use Rattle.mega_lease_laws.specs.of_run_laws.of_tape_laws.of_promises.of_rules.Members.{nodes}
use Rattle.mega_lease_laws.specs.of_run_laws.of_tape_laws.of_promises.of_rules.Operations.{Node, Now, Operation, Phase, Proposes, Reads, Setting}
use Rattle.mega_lease_laws.specs.of_run_laws.of_tape_laws.of_promises.of_rules.Acting.{completes_read, ends, read_begun, reader_of, sends_more, validated_by}
use Rattle.mega_lease_laws.specs.of_run_laws.of_tape_laws.of_promises.of_rules.Replies.{answer_to, reply_message, reply_to}
use Rattle.mega_lease_laws.specs.of_run_laws.of_tape_laws.of_promises.of_rules.Steps.{Begin, Decision, Event, Heard, Step, Take, Tick, acts_in_turn, all_act, at_first, at_open, background, decision_note, does_due, first_settled, hears_message, if_new, is_out, lapse_notes, last_answer, lease_notes, new_operation, news, onto, op_of, portion_of, refusal, start, start_items, step, stored_after, taken, ticked, told_decision, told_notes, unless_refused}
use Rattle.mega_lease_laws.specs.of_run_laws.of_tape_laws.Places.{Place}
use Rattle.mega_lease_laws.specs.of_run_laws.Justified.{Chosen as HeardChosen, Each, Knows, Justified, sent}
use Rattle.mega_lease_laws.proofs.of_run_laws.Opened.{Backed, BackedStage, at_place}
use Rattle.mega_lease_laws.proofs.of_run_laws.Runs.{nobody}
use Rattle.mega_lease_laws.proofs.of_run_laws.Standing.{Good}
use Rattle.mega_lease_laws.proofs.of_run_laws.Turns.{Held, each_on}
use Rattle.mega_valid_laws.specs.of_settled_laws.Covering.{Earlier}
use Rattle.mega_lease_laws.proofs.of_run_laws.Shown.{IsSilent, notes_silent}
use Rattle.mega_lease_laws.proofs.of_run_laws.Events.{each_append as each_both}
use Rattle.mega_valid_laws.proofs.of_settled_laws.Tapes.{items_later, now_is, one_later, then_later}
use Rattle.mega_valid_laws.proofs.of_settled_laws.Walk.{Walks, begun_it, caught, goes_on_it}
use Rattle.mega_lease_laws.proofs.Acting.{Acquires, acquires_are}
use Rattle.mega_lease_laws.proofs.of_node_laws.Rounds.{MayPropose, due_hold}
use Rattle.mega_lease_laws.proofs.of_node_laws.Reading.{MayRead, falls_due_hold, seeks_hold}
use Rattle.mega_lease_laws.proofs.of_node_laws.Acting.{MayAct, background_hold, hears_message_hold, news_hold}
use Rattle.mega_lease_laws.proofs.of_node_laws.Walk.{begun_hold}
use Rattle.mega_valid_laws.specs.Leases.{WasChosen}
use Rattle.mega_valid_laws.proofs.Joint.{chosen_on, vote_heard}
use Rattle.mega_lease_laws.proofs.of_run_laws.AnswerKinds.{IsAnswer, answer_kind}
use Rattle.mega_lease_laws.proofs.of_run_laws.Whole.{take_by}
use Rattle.mega_leased_laws.specs.Items.{Are}
use Rattle.mega_leased_laws.specs.Invalidations.{IsPressed, Presses}
use Rattle.mega_leased_laws.proofs.Forms.{Anything, Holds, Occurs, any_keeps, run_holds, stepped}
use Rattle.mega_leased_laws.proofs.Tapes.{IsFree, each_all, are_items, are_sent, free_follows}
use Rattle.mega_leased_laws.proofs.Cells.{occurs_own, own_silent}
use Rattle.mega_leased_laws.proofs.Obeying.{mark_silent}

-- ---- what was chosen

presses_on : (c : Cluster) (old new : List Item) → Earlier old new → (body : Body) → Presses c old body → Presses c new body
presses_on c old new later (Invalidate op group n) h = chosen_on c old new later (record { group = group; position = n }) h
presses_on c old new later _ h = tt

heard_chosen : (c : Cluster) (tape : List Item) (op : OpId) (p : Place) (e : Content) → HeardChosen c tape op p e → WasChosen c tape p
heard_chosen c tape op p e h = record {
  entry = e;
  chosen = record { ballot = h.ballot; test = h.test; majority = h.majority; each = λ voter t. let took = h.heard voter t in vote_heard tape p took.number voter op.node.0 op h.ballot e took.sent };
}

-- ---- messages that press nobody

abbrev IsMild : Body → Type 0
IsMild (Invalidate op group n) = ⊥
IsMild _ = Unit {0}

abbrev Mild : Message → Type 0
Mild m = IsMild m.body

module _ (c : Cluster) (tape : List Item) where
  abbrev Says : Message → Type 0
  Says m = Presses c tape m.body

  mild_says : (body : Body) → IsMild body → Presses c tape body
  mild_says (Invalidate op group n) h = absurd h
  mild_says _ h = tt

  all_say : (ms : List Message) → All Mild ms → Each Says ms
  all_say ms h = each_all Mild Says (λ m mild. mild_says m.body mild) ms h

mild_read : (who : Reader) → MayRead Mild who
mild_read who = record { inquires = λ to. tt; fetches = λ position to. tt; proposes = λ asked position. record { accepts = λ ballot entry to. tt; prepares = λ ballot to. tt } }

mild_act : (s : Setting) → MayAct Mild s
mild_act s = record { reads = λ id group. mild_read (reader_of s id group); decides = λ d to. tt; fetches = λ met group to. tt }

-- a covering tells whom it does not cover
covering_chosen : (c : Cluster) (tape : List Item) (op : OpId) (p : Place) (proposal : Proposal) → Justified c tape op p proposal → (b : Ballot) (e : Content) (cover : Cover) (at : ℕ) → proposal.round ≡ Covering b e cover at → WasChosen c tape p
covering_chosen c tape op p proposal v b e cover at is = heard_chosen c tape op p e (subst (Knows c tape op p) is v.knows)

module _ (c : Cluster) (tape : List Item) where
  says_propose : (s : Site) → MayPropose (Says c tape) s
  says_propose s = record { accepts = λ ballot entry to. tt; prepares = λ ballot to. tt }

  says_read : (who : Reader) → MayRead (Says c tape) who
  says_read who = record { inquires = λ to. tt; fetches = λ position to. tt; proposes = λ asked position. says_propose (site who asked position) }

  round_says : (op : OpId) (s : Site) (p : Proposal) (retry now : ℕ) → Justified c tape op (at_place s.group s.position) p → All (Says c tape) (due s p retry now).sends
  round_says op s p retry now v =
      due_hold (Says c tape) s (says_propose s) p
      (λ ballot entry cover at is. record { invalidates = λ to. covering_chosen c tape op (at_place s.group s.position) p v ballot entry cover at is; buries = λ node cell. tt }) retry now

-- ---- operations

module _ (s : Setting) (tape : List Item) where
  abbrev AllSay : Now → Type 0
  AllSay now = Each (Says s.cluster tape) now.sends

  more_say : (now : Now) (ms : List Message) → Each (Says s.cluster tape) ms → AllSay now → AllSay (sends_more now ms)
  more_say now ms more h = each_both (Says s.cluster tape) now.sends ms h more

  mild_more : (now : Now) (ms : List Message) → All Mild ms → AllSay now → AllSay (sends_more now ms)
  mild_more now ms mild h = more_say now ms (all_say s.cluster tape ms mild) h

  completes_say : (now : Now) (group : GroupId) (noted : Option Epoch) (asked : List ℕ) (p : ℕ) (search : Option Search) → AllSay now → AllSay (completes_read s now group (record { noted = noted; asked = asked; stage = Catching p search }) p)
  completes_say now group None asked p search h = h
  completes_say now group (Some noted) asked p search h = by _ (refused_at s.cluster now.met group p noted)
    where
      by : (stored : GroupId → ℕ) (refusal : Option NotValid) → AllSay (validated_by (record { met = now.met; stored = stored; kept = now.kept; valid = now.valid; answers = now.answers; sends = now.sends }) group p refusal)
      by stored (Some why) = h
      by stored None = h

  walks : Walks s (λ op now. AllSay now) (λ op now. AllSay now) (λ now o. AllSay now)
  walks = record {
    keeps_it = λ now o h. h;
    ends_it = λ now o answer h. h;
    completes_it = λ now o group noted asked p search all h. completes_say now group noted asked p search h;
    seeks_it = λ now o group r least h. mild_more now (seeks (reader_of s o.id group) r least (clock_of now.met)).sends (seeks_hold Mild (reader_of s o.id group) (mild_read (reader_of s o.id group)) r least (clock_of now.met)) h;
    asks_it = λ now o group noted asked p search leader own promised h.
        more_say now (asks (site (reader_of s o.id group) (asked_by (caught noted asked p search)) (p + 1)) leader own (clock_of now.met)).sends (tt, tt) h;
    visits_it = λ now o before r group message h. mild_more now (read_begun s now o group (asked_by r)).sends (begun_hold Mild s (mild_act s) now o group (asked_by r)) h;
    first_it = λ now id request clock group message h.
        mild_more now (read_begun s now (new_operation id request clock) group []).sends (begun_hold Mild s (mild_act s) now (new_operation id request clock) group []) h;
    ends_first = λ now id answer h. h;
  }

  turn_says : (now : Now) (t : Heard) → Each (Says s.cluster tape) t.sends → AllSay now → AllSay (acts_in_turn s now t)
  turn_says now t says h = goes_on_it s (λ op next. AllSay next) (λ op next. AllSay next) (λ next o. AllSay next) walks (sends_more now t.sends) t.operation (more_say now t.sends says h)

  all_heard : (clock : ℕ) (m : Message) (os : List Operation) (now : Now) → AllSay now → AllSay (all_act s now (map (hears_message s clock m) os))
  all_heard clock m [] now h = h
  all_heard clock m (o ∷ os) now h = all_heard clock m os (acts_in_turn s now (hears_message s clock m o))
      (turn_says now (hears_message s clock m o) (all_say s.cluster tape _ (hears_message_hold Mild s (mild_act s) clock m o)) h)

  due_says : (clock : ℕ) (id : OpId) (request : Request) (began : ℕ) (visited : List GroupId) (enter : Option Enter) (phase : Phase) (met : List Met) → Backed s.cluster tape met id phase
      → Each (Says s.cluster tape) (does_due s clock (record { id = id; request = request; began = began; visited = visited; message = enter; phase = phase })).sends
  due_says clock id request began visited enter (Reads group r) met b = each_all (Says s.cluster tape) (Says s.cluster tape) (λ m says. says) _
      (falls_due_hold (Says s.cluster tape) (reader_of s id group) (says_read s.cluster tape (reader_of s id group)) r s.cluster.retry clock
      (λ through position p is. round_says s.cluster tape id (site (reader_of s id group) r.asked position) p s.cluster.retry clock (subst (BackedStage s.cluster tape met id group) is b).1))
  due_says clock id request began visited enter (Proposes group n asked p promised) met b = each_all (Says s.cluster tape) (Says s.cluster tape) (λ m says. says) _
      (round_says s.cluster tape id (site (reader_of s id group) asked n) p s.cluster.retry clock b)

  all_due : (clock : ℕ) (met : List Met) (os : List Operation) (now : Now) → Each (λ (o : Operation). Backed s.cluster tape met o.id o.phase) os → AllSay now → AllSay (fold (ticked s clock) now os)
  all_due clock met [] now backed h = h
  all_due clock met (o ∷ os) now backed h = all_due clock met os (ticked s clock now o) backed.1 (by (is_out s clock o))
    where
      by : (t : Bool) → AllSay (cond t (ends now o.id (last_answer o)) (acts_in_turn s now (does_due s clock o)))
      by true = h
      by false = turn_says now (does_due s clock o) (due_says clock o.id o.request o.began o.visited o.message o.phase met backed.0) h

  begins_say : (now : Now) (id : OpId) (request : Request) (clock : ℕ) (refusal : Option Answer) → AllSay now → AllSay (unless_refused s now (new_operation id request clock) refusal)
  begins_say now id request clock refusal h = begun_it s (λ op next. AllSay next) (λ op next. AllSay next) (λ next o. AllSay next) walks now id clock request refusal (λ none. h) (λ answer. h)

  -- ---- what a node sends by itself

  acquires_mild : (met : List Met) (now : ℕ) → All Mild (acquires_at s.cluster s.me met now)
  acquires_mild met now = All-weaker (Acquires s.cluster s.me met now) Mild (λ m a. subst Mild (sym a.is) tt) (acquires_at s.cluster s.me met now) (acquires_are s.cluster s.me met now)

  -- ---- its reply

  no_invalidate : (asked : Body) (op : OpId) (group : GroupId) (n : Position) → IsAnswer asked (Invalidate op group n) → ⊥
  no_invalidate (Where o g) op group n h = h
  no_invalidate _ op group n h = h

  kind_mild : (asked reply : Body) → IsAnswer asked reply → IsMild reply
  kind_mild asked (Invalidate op group n) h = no_invalidate asked op group n h
  kind_mild asked _ h = tt

  answer_mild : (met : List Met) (from : ℕ) (body reply : Body) → answer_to s.cluster s.me met from body ≡ Some reply → IsMild reply
  answer_mild met from body reply is = kind_mild body reply (answer_kind s.cluster s.me met from body reply is)

  reply_mild : (met : List Met) (m : Message) → All Mild (reply_to s.cluster s.me met m)
  reply_mild met m = by (answer_to s.cluster s.me met m.from m.body) refl
    where
      by : (o : Option Body) → answer_to s.cluster s.me met m.from m.body ≡ o → All Mild (reply_message s.me m.from o)
      by None is = All-nil Mild
      by (Some body) is = All-cons Mild (record { from = s.me; to = m.from; body = body }) [] (answer_mild met m.from m.body body is) (All-nil Mild)

  -- ---- steps

  taken_says : (node : Node) (m : Message) (d : Option Decision) (told_news : List Message) → All Mild told_news
      → Each (Says s.cluster tape) (taken s node m (told_notes s node.met m.from m.body) (map (hears_message s (clock_of node.met) m) node.open_operations) d (reply_to s.cluster s.me node.met m) told_news).sends
  taken_says node m d told_news mild = each_both (Says s.cluster tape) (reply_to s.cluster s.me node.met m ++ told_news) _
      (all_say s.cluster tape (reply_to s.cluster s.me node.met m ++ told_news) (All-append Mild (reply_to s.cluster s.me node.met m) told_news (reply_mild node.met m) mild))
      (all_heard (clock_of node.met) m node.open_operations (at_first base (stored_after s base node.stored d)) tt)
    where
      base : List Met
      base = onto (decision_note d) (onto (told_notes s node.met m.from m.body) (Takes m ∷ node.met))

  step_says : (node : Node) (event : Event) → Each (λ (o : Operation). Backed s.cluster tape node.met o.id o.phase) node.open_operations → Each (Says s.cluster tape) (step s node event).sends
  step_says node (Take m) backed = by (told_decision m.body)
    where
      ts : List Heard
      ts = map (hears_message s (clock_of node.met) m) node.open_operations

      by : (told : Option Decision) → Each (Says s.cluster tape) (take_by s node m ts told).sends
      by (Some d) = taken_says node m (if_new node.met (Some d)) [] (All-nil Mild)
      by None = taken_says node m (if_new node.met (first_settled ts)) (news s (if_new node.met (first_settled ts))) (news_hold Mild s (mild_act s) (if_new node.met (first_settled ts)))
  step_says node (Tick clock) backed = each_both (Says s.cluster tape) (acquires_at s.cluster s.me node.met clock ++ _) (background s node.met clock)
      (each_both (Says s.cluster tape) (acquires_at s.cluster s.me node.met clock) _ (all_say s.cluster tape (acquires_at s.cluster s.me node.met clock) (acquires_mild node.met clock))
      (all_due clock node.met node.open_operations (at_first base (portion_of s node.met node.stored)) backed tt))
      (all_say s.cluster tape (background s node.met clock) (background_hold Mild s (mild_act s) node.met clock))
    where
      base : List Met
      base = onto (lapse_notes s node.met clock) (onto (lease_notes s node.met clock) (Ticks clock ∷ node.met))
  step_says node (Begin request text) backed =
      begins_say (at_open (at_first (Begins (op_of s node.met) text ∷ node.met) node.stored) node.open_operations) (op_of s node.met) request (clock_of node.met) (refusal s node request) tt

-- ---- runs

silent_pressed : (c : Cluster) (t : List Item) (item : Item) → IsSilent item → IsPressed c t item
silent_pressed c t (Sent key m) h = absurd h
silent_pressed c t _ h = tt

abbrev Pressing : Cluster → List Item → (ℕ → Node) → (ℕ → List Met) → Type 0
Pressing c tape nodes owed = Are (IsPressed c) tape

module _ (c : Cluster) (h : Meanings) (now : Standing) (me : ℕ) (g : Good nobody c now) (q : Are (IsPressed c) now.tape) where
  abbrev s : Setting
  s = setting c h me

  abbrev made : Event → Step
  made event = step s (now.node me) event

  abbrev nodes' : Event → ℕ → Node
  nodes' event = set_at now.node me (made event).node

  abbrev items : Event → List Item
  items event = flat_map (shown me) (made event).notes

  abbrev second : Item → Event → List Item
  second item event = with_items c (nodes' event) (item ∷ now.tape) (items event)

  steps_pressing : (item : Item) (event : Event) → Occurs now.tape s (now.node me).met item event → Are (IsPressed c) (stepped c (nodes' event) me now.tape item (made event))
  steps_pressing item event o = are_sent (IsPressed c) (λ m t. Says c t m) (λ m t k r. r) (λ m other t k r. presses_on c t (Sent k other ∷ t) (one_later t t (Sent k other) (now_is t)) m.body r) (sent_count now.tape + 1) (made event).sends (second item event)
      (each_on (Says c now.tape) (Says c (second item event)) (λ m says. presses_on c now.tape (second item event) later m.body says) (made event).sends
      (step_says s now.tape (now.node me) event (each_on (Held nobody c now.tape me (start_of (now.node me).met) (begun_of (now.node me).met + 1) (now.node me).met) (λ (x : Operation). Backed c now.tape (now.node me).met x.id x.phase) (λ x held. held.backed) (now.node me).open_operations (g.node me).held)))
      (are_items (IsPressed c) (λ t. tt) c (nodes' event) (items event) (item ∷ now.tape) (free_follows (IsPressed c) (λ t. tt) c (nodes' event) (items event) (item ∷ now.tape)
      (each_on IsSilent (IsFree (IsPressed c) (λ t. tt) c (nodes' event)) (λ one is t. silent_pressed c t one is) (items event) (notes_silent me (made event).notes)))
      (silent_pressed c now.tape item (own_silent item (occurs_own now.tape s (now.node me).met item event o)), q))
    where
      later : Earlier now.tape (second item event)
      later = then_later now.tape (item ∷ now.tape) (second item event) (one_later now.tape now.tape item (now_is now.tape)) (items_later c (nodes' event) (items event) (item ∷ now.tape))

module _ (c : Cluster) (h : Meanings) (now : Standing) (me count : ℕ) (q : Are (IsPressed c) now.tape) where
  abbrev those : ℕ → Node
  those = set_at now.node me (start (setting c h me) count (now.owed me) (now.node me).met)

  abbrev those_items : List Item
  those_items = flat_map (shown me) (start_items (setting c h me) count (now.owed me) (now.node me).met)

  starts_pressing : Are (IsPressed c) (with_items c those now.tape those_items)
  starts_pressing = are_items (IsPressed c) (λ t. tt) c those those_items now.tape (free_follows (IsPressed c) (λ t. tt) c those those_items now.tape
      (each_on IsSilent (IsFree (IsPressed c) (λ t. tt) c those) (λ one is t. silent_pressed c t one is) those_items (notes_silent me (start_items (setting c h me) count (now.owed me) (now.node me).met)))) q

pressing_holds : (c : Cluster) → Holds c Anything (Pressing c)
pressing_holds c = record {
  steps = λ h now me item event g p up o plain q. steps_pressing c h now me g q item event o;
  cuts = λ h now me item event kept g p up o q. (tt, (silent_pressed c now.tape item (own_silent item (occurs_own now.tape (setting c h me) (now.node me).met item event o)), q));
  starts = λ h now me count g p less q. starts_pressing c h now me count q;
  falls = λ now me g p q. (tt, q);
  marks = λ now item is g p q. (silent_pressed c now.tape item (mark_silent item is), q);
}

pub run_pressed : (c : Cluster) (first : Meanings) (events : List Happening) (tape : List Item) → IsRun c first events tape → Are (IsPressed c) tape
run_pressed c first events tape run = subst (Are (IsPressed c)) (sym run.tape_is) (run_holds c Anything (any_keeps c) (Pressing c) (pressing_holds c) first events tape run tt tt)
