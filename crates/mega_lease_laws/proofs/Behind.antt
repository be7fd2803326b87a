-- In every run an `invalidated` stands behind the `invalid` of its node.
use Rattle.std.proofs.Common.{inl, inr, ℕ, suc, zero, ◌+◌, ◌&&◌, Bool, true, false, not, cond, List, [], ◌∷◌, ◌++◌, flat_map, fold, Option, Some, None, refl, sym, subst}
use Rattle.std.specs.List.{All}
use Rattle.std.proofs.lemmas.List.Elements.{All-head, All-tail}
use Rattle.mega_base.specs.declared.names.GroupId.{GroupId}
use Rattle.mega_base.specs.declared.names.OpId.{OpId}
use Rattle.mega_base.specs.declared.names.Position.{Position}
use Rattle.mega_cluster.specs.declared.cluster.Cluster.{Cluster}
use Rattle.mega_disk.specs.declared.pair.Device.TheVariants.{Log, Data}
use Rattle.mega_handler.specs.Named.{Meanings}
use Rattle.mega_wire.specs.declared.message.Message.{Message}
use Rattle.mega_wire.specs.declared.message.Body.{Body}
use Rattle.mega_wire.specs.declared.message.Body.TheVariants.{Invalidated}
use Rattle.mega_run_laws.specs.of_tape_laws.of_promises.of_schedule.declared.world_event.WorldEvent.{WorldEvent}
use Rattle.mega_run_laws.specs.of_tape_laws.of_promises.of_schedule.declared.world_event.WorldEvent.TheVariants.{Tick as TickEvent, Deliver, Drop, Drain, Crash as CrashEvent, Start as StartEvent, Fuse as FuseEvent, Begin as BeginEvent}
use Rattle.mega_run_laws.specs.of_tape_laws.of_promises.of_transcript.declared.item.Item.{Item}
use Rattle.mega_run_laws.specs.of_tape_laws.of_promises.of_transcript.declared.item.Item.TheVariants.{Invalid, Sent, Taken, Unsafe, Cut as CutItem}
use Rattle.mega_run_laws.specs.of_tape_laws.of_promises.of_transcript.Tape.{sent_count}
use Rattle.mega_run_laws.specs.of_tape_laws.of_promises.of_rules.Members.{nodes}
use Rattle.mega_run_laws.specs.of_tape_laws.of_promises.of_rules.Met.{Met, Crashes, Ticks, Begins, Invalidates}
use Rattle.mega_run_laws.specs.of_tape_laws.of_promises.of_rules.Operations.{Node}
use Rattle.mega_run_laws.specs.of_tape_laws.of_promises.of_rules.Steps.{Begin, Event, Step, Take, Tick, crashed, op_of, start, start_items, step}
use Rattle.mega_run_laws.specs.of_tape_laws.of_promises.Items.{number, numbered, shown}
use Rattle.mega_run_laws.specs.of_tape_laws.of_promises.Messages.{is_unsafe, message_of, next_delivery}
use Rattle.mega_run_laws.specs.of_tape_laws.of_promises.Promises.{Stands, StoodBefore}
use Rattle.mega_run_laws.specs.of_tape_laws.of_promises.Runs.{Calls, CutByData, CutByLog, Cuts, Fate, Happening, IsRun, Standing, Whole, after_event, at_node, breaks, calls_of, delivered, drained, fate_by, fated, fated_start, goes_on, handed, marked, met_in, nothing_yet, opening, refusal, replies_in, set_at, setting, start_calls, unless_none, unless_refused, up, whole_step, with_item, with_items}
use Rattle.mega_run_laws.specs.of_tape_laws.Lawful.{Heard, message}
use Rattle.mega_run_laws.specs.of_tape_laws.Places.{In}
use Rattle.mega_run_laws.specs.Justified.{Each}
use Rattle.mega_run_laws.proofs.Events.{each_append}
use Rattle.mega_run_laws.proofs.Noted.{with_append}
use Rattle.mega_run_laws.proofs.Sending.{Stood}
use Rattle.mega_run_laws.proofs.Shown.{IsSilent, notes_silent}
use Rattle.mega_run_laws.proofs.Whole.{in_left, in_right}
use Rattle.mega_lease_laws.proofs.Telling.{Tells, TellsOf, step_tells}

-- ---- on a tape

-- what a message tells stands on the tape before it
abbrev IsTold : List Item → ℕ → Body → Type 0
IsTold before from (Invalidated op group n) = Stands (Invalid (number from) group n) before
IsTold before from _ = Unit {0}

abbrev IsBehind : List Item → Item → Type 0
IsBehind before (Sent key m) = IsTold before m.from m.body
IsBehind before _ = Unit {0}

abbrev AreBehind : List Item → Type 0
AreBehind [] = Unit {0}
AreBehind (item ∷ before) = IsBehind before item × AreBehind before

silent_behind : (before : List Item) (item : Item) → IsSilent item → IsBehind before item
silent_behind before (Sent key m) silent = absurd silent
silent_behind before _ silent = tt

module _ (c : Cluster) (node : ℕ → Node) where
  one_more : (tape : List Item) (item : Item) → IsSilent item → AreBehind tape → AreBehind (with_item c node tape item)
  one_more tape item silent h = by (breaks c node item && not (is_unsafe tape))
    where
      by : (t : Bool) → AreBehind (cond t (Unsafe ∷ item ∷ tape) (item ∷ tape))
      by true = (tt, (silent_behind tape item silent, h))
      by false = (silent_behind tape item silent, h)

  more : (items tape : List Item) → Each IsSilent items → AreBehind tape → AreBehind (with_items c node tape items)
  more [] tape silent h = h
  more (item ∷ items) tape silent h = more items (with_item c node tape item) silent.1 (one_more tape item silent.0 h)

  one_stood : (tape : List Item) (item : Item) → Stood tape (with_item c node tape item)
  one_stood tape item other s = by (breaks c node item && not (is_unsafe tape))
    where
      by : (t : Bool) → Stands other (cond t (Unsafe ∷ item ∷ tape) (item ∷ tape))
      by true = inr (inr s)
      by false = inr s

  all_stood : (items tape : List Item) → Stood tape (with_items c node tape items)
  all_stood [] tape other s = s
  all_stood (item ∷ items) tape other s = all_stood items (with_item c node tape item) other (one_stood tape item other s)

  one_stands : (tape : List Item) (item : Item) → Stands item (with_item c node tape item)
  one_stands tape item = by (breaks c node item && not (is_unsafe tape))
    where
      by : (t : Bool) → Stands item (cond t (Unsafe ∷ item ∷ tape) (item ∷ tape))
      by true = inr (inl refl)
      by false = inl refl

  those_stand : (items tape : List Item) (item : Item) → In item items → Stands item (with_items c node tape items)
  those_stand [] tape item i = absurd i
  those_stand (one ∷ items) tape item (inl same) = all_stood items (with_item c node tape one) item (subst (λ x. Stands x (with_item c node tape one)) same (one_stands tape one))
  those_stand (one ∷ items) tape item (inr i) = those_stand items (with_item c node tape one) item i

  -- messages come onto a tape on which the notes of their step stand
  told_by : (me : ℕ) (notes : List Met) (tape : List Item) → ((group : GroupId) (n : ℕ) → In (Invalidates group n) notes → Stands (Invalid (number me) group (record { 0 = n })) tape)
      → (from : ℕ) (body : Body) → TellsOf me notes from body → IsTold tape from body
  told_by me notes tape noted from (Invalidated op group n) h = subst (λ v. Stands (Invalid (number v) group n) tape) (sym h.0) (noted group n.0 h.1)
  told_by me notes tape noted from _ h = tt

  sends_behind : (me : ℕ) (notes : List Met) (n : ℕ) (ms : List Message) (tape : List Item) → ((group : GroupId) (n : ℕ) → In (Invalidates group n) notes → Stands (Invalid (number me) group (record { 0 = n })) tape)
      → All (Tells me notes) ms → AreBehind tape → AreBehind (with_items c node tape (numbered n ms))
  sends_behind me notes n [] tape noted tell h = h
  sends_behind me notes n (m ∷ ms) tape noted tell h =
      sends_behind me notes (n + 1) ms (Sent n m ∷ tape) (λ group k i. inr (noted group k i)) (All-tail (Tells me notes) m ms tell)
      (told_by me notes tape noted m.from m.body (All-head (Tells me notes) m ms tell), h)

in_notes : (me : ℕ) (group : GroupId) (n : ℕ) (notes : List Met) → In (Invalidates group n) notes → In (Invalid (number me) group (record { 0 = n })) (flat_map (shown me) notes)
in_notes me group n [] i = absurd i
in_notes me group n (one ∷ notes) (inl same) = in_left (Invalid (number me) group (record { 0 = n })) (shown me one) (flat_map (shown me) notes)
    (subst (λ x. In (Invalid (number me) group (record { 0 = n })) (shown me x)) (sym same) (inl refl))
in_notes me group n (one ∷ notes) (inr i) = in_right (Invalid (number me) group (record { 0 = n })) (shown me one) (flat_map (shown me) notes) (in_notes me group n notes i)

-- ---- steps

module _ (c : Cluster) where
  whole_behind : (now : Standing) (me : ℕ) (own : List Item) (made : Step) → Each IsSilent own → All (Tells me made.notes) made.sends → AreBehind now.tape → AreBehind (whole_step c now me own made).tape
  whole_behind now me own made silent tell h =
      subst AreBehind (sym (with_append c node (own ++ flat_map (shown me) made.notes) (numbered (sent_count now.tape + 1) made.sends) now.tape))
      (sends_behind c node me made.notes (sent_count now.tape + 1) made.sends (with_items c node now.tape (own ++ flat_map (shown me) made.notes))
      (λ group n i. those_stand c node (own ++ flat_map (shown me) made.notes) now.tape (Invalid (number me) group (record { 0 = n })) (in_right (Invalid (number me) group (record { 0 = n })) own (flat_map (shown me) made.notes) (in_notes me group n made.notes i)))
      tell (more c node (own ++ flat_map (shown me) made.notes) now.tape (each_append IsSilent own (flat_map (shown me) made.notes) silent (notes_silent me made.notes)) h))
    where
      node : ℕ → Node
      node = set_at now.node me made.node

  fated_behind : (now : Standing) (me : ℕ) (own : List Item) (met : Met) (made : Step) (replies : List Message) (fate : Fate) → Each IsSilent own → All (Tells me made.notes) made.sends → AreBehind now.tape → AreBehind (fated c now me own met made replies fate).tape
  fated_behind now me own met made replies Whole silent tell h = whole_behind now me own made silent tell h
  fated_behind now me own met made replies (CutByLog left) silent tell h =
      more c (set_at now.node me (crashed (record { met = met ∷ (now.node me).met; open_operations = []; stored = (now.node me).stored }))) (own ++ shown me Crashes) now.tape (each_append IsSilent own (shown me Crashes) silent (tt, tt)) h
  fated_behind now me own met made replies (CutByData left) silent tell h =
      more c (set_at now.node me (crashed (record { met = met ∷ (now.node me).met; open_operations = []; stored = (now.node me).stored }))) (own ++ shown me Crashes) now.tape (each_append IsSilent own (shown me Crashes) silent (tt, tt)) h

  at_behind : (h : Meanings) (now : Standing) (me : ℕ) (own : List Item) (event : Event) (cut : Calls → Fate) → Each IsSilent own → AreBehind now.tape → AreBehind (at_node c h now me own event cut).tape
  at_behind h now me own event cut silent behind =
      fated_behind now me own (met_in (setting c h me) (now.node me).met event) made (replies_in c me (now.node me).met event) (fate_by now me cut (calls_of c h now me event made)) silent (step_tells (setting c h me) (now.node me) event) behind
    where
      made : Step
      made = step (setting c h me) (now.node me) event

  start_behind : (h : Meanings) (now : Standing) (me : ℕ) (fate : Fate) → AreBehind now.tape → AreBehind (fated_start c h now me fate).tape
  start_behind h now me Whole behind =
      more c (set_at now.node me (start (setting c h me) (now.starts me + 1) (now.owed me) (now.node me).met)) (flat_map (shown me) items) now.tape (notes_silent me items) behind
    where
      items : List Met
      items = start_items (setting c h me) (now.starts me + 1) (now.owed me) (now.node me).met
  start_behind h now me (CutByLog left) behind = (tt, behind)
  start_behind h now me (CutByData left) behind = (tt, behind)

  -- ---- events

  handed_behind : (h : Meanings) (cuts : Cuts) (now : Standing) (j : ℕ) (o : Option Message) → AreBehind now.tape → AreBehind (handed c h cuts now j o).tape
  handed_behind h cuts now j None behind = behind
  handed_behind h cuts now j (Some m) behind = at_behind h now m.to (Taken j ∷ []) (Take m) (cuts now m.to) (tt, tt) behind

  drained_behind : (h : Meanings) (cuts : Cuts) (most : ℕ) (now : Standing) → AreBehind now.tape → AreBehind (drained c h cuts now most).tape
  drained_behind h cuts zero now behind = by (next_delivery (up now) now.tape)
    where
      by : (o : Option ℕ) → AreBehind (unless_none now (λ j. marked now CutItem) o).tape
      by None = behind
      by (Some j) = (tt, behind)
  drained_behind h cuts (suc most) now behind = by (next_delivery (up now) now.tape) (λ j. drained_behind h cuts most (delivered c h cuts now j) (handed_behind h cuts now j (message_of now.tape j) behind))
    where
      by : (o : Option ℕ) → ((j : ℕ) → AreBehind (drained c h cuts (delivered c h cuts now j) most).tape) → AreBehind (unless_none now (λ j. drained c h cuts (delivered c h cuts now j) most) o).tape
      by None again = behind
      by (Some j) again = again j

  event_behind : (h : Meanings) (cuts : Cuts) (now : Standing) (event : WorldEvent) → AreBehind now.tape → AreBehind (after_event c h cuts now event).tape
  event_behind h cuts now (TickEvent node clock) behind = at_behind h now node.0 (shown node.0 (Ticks clock)) (Tick clock) (cuts now node.0) (tt, tt) behind
  event_behind h cuts now (Deliver j) behind = handed_behind h cuts now j (message_of now.tape j) behind
  event_behind h cuts now (Drop j) behind = (tt, behind)
  event_behind h cuts now (Drain most) behind = drained_behind h cuts most now behind
  event_behind h cuts now (CrashEvent node) behind = (tt, behind)
  event_behind h cuts now (StartEvent node) behind = start_behind h now node.0 (fate_by now node.0 (cuts now node.0) (start_calls c node.0)) behind
  event_behind h cuts now (FuseEvent node calls image Log) behind = behind
  event_behind h cuts now (FuseEvent node calls image Data) behind = behind
  event_behind h cuts now (BeginEvent node request text) behind =
      at_behind h now node.0 (shown node.0 (Begins (op_of (setting c h node.0) (now.node node.0).met) text)) (Begin request text) (cuts now node.0) (tt, tt) behind

  unless_behind : (now next : Standing) (o : Option ℕ) → AreBehind now.tape → AreBehind next.tape → AreBehind (unless_refused now next o).tape
  unless_behind now next None a b = b
  unless_behind now next (Some why) a b = a

  events_behind : (cuts : Cuts) (events : List Happening) (now : Standing) → AreBehind now.tape → AreBehind (goes_on c cuts now events).tape
  events_behind cuts [] now behind = behind
  events_behind cuts (one ∷ events) now behind =
      events_behind cuts events (unless_refused now (after_event c one.handlers cuts now one.event) (refusal c now one.event))
      (unless_behind now (after_event c one.handlers cuts now one.event) (refusal c now one.event) behind (event_behind one.handlers cuts now one.event behind))

  opened_behind : (h : Meanings) (those : List ℕ) (now : Standing) → AreBehind now.tape → AreBehind (fold (λ now me. fated_start c h now me Whole) now those).tape
  opened_behind h [] now behind = behind
  opened_behind h (me ∷ those) now behind = opened_behind h those (fated_start c h now me Whole) (start_behind h now me Whole behind)

run_behind : (c : Cluster) (first : Meanings) (events : List Happening) (tape : List Item) → IsRun c first events tape → AreBehind tape
run_behind c first events tape run = subst AreBehind (sym run.tape_is) (events_behind c run.cuts events (opening c first) (opened_behind c first (nodes c) nothing_yet tt))

-- ---- what stands

pub sent_behind : (from to key : ℕ) (op : OpId) (group : GroupId) (n : Position) (tape : List Item) → AreBehind tape → Stands (Sent key (message from to (Invalidated op group n))) tape
    → StoodBefore (Invalid (number from) group n) (Sent key (message from to (Invalidated op group n))) tape
sent_behind from to key op group n [] behind s = absurd s
sent_behind from to key op group n (item ∷ before) behind (inl same) = inl (same, subst (IsBehind before) same behind.0)
sent_behind from to key op group n (item ∷ before) behind (inr s) = inr (sent_behind from to key op group n before behind.1 s)

before_stands : (first item : Item) (tape : List Item) → StoodBefore first item tape → Stands first tape
before_stands first item [] h = absurd h
before_stands first item (other ∷ before) (inl both) = inr both.1
before_stands first item (other ∷ before) (inr h) = inr (before_stands first item before h)

pub run_sent : (c : Cluster) (first : Meanings) (events : List Happening) (tape : List Item) → IsRun c first events tape → (key from to : ℕ) (op : OpId) (group : GroupId) (n : Position)
    → Stands (Sent key (message from to (Invalidated op group n))) tape → StoodBefore (Invalid (number from) group n) (Sent key (message from to (Invalidated op group n))) tape
run_sent c first events tape run key from to op group n s = sent_behind from to key op group n tape (run_behind c first events tape run) s

pub run_heard : (c : Cluster) (first : Meanings) (events : List Happening) (tape : List Item) → IsRun c first events tape → (from : ℕ) (op : OpId) (group : GroupId) (n : Position)
    → Heard tape from op (Invalidated op group n) → Stands (Invalid (number from) group n) tape
run_heard c first events tape run from op group n heard =
    before_stands (Invalid (number from) group n) (Sent heard.number (message from op.node.0 (Invalidated op group n))) tape (run_sent c first events tape run heard.number from op.node.0 op group n heard.sent)
