-- In every run of a cluster of at most nine nodes a cell that says that it holds nothing for a node holds nothing.
use Rattle.std.proofs.Common.{◌≡◌, ◌⊎◌, inl, inr, ℕ, zero, suc, ◌+◌, ◌==◌, ◌&&◌, ◌≤◌, nat_le, nat_lt, Bool, true, false, cond, List, [], ◌∷◌, ◌++◌, filter, flat_map, length, map, Option, Some, None, is_some, refl, sym, ap, ◌∙◌, subst, arith, append-nil}
use Rattle.std.proofs.lemmas.Bool.Decides.{nat_tests}
use Rattle.std.proofs.lemmas.Bool.{and_parts}
use Rattle.mega_base.specs.declared.names.Epoch.{Epoch}
use Rattle.mega_base.specs.declared.names.GroupId.{GroupId}
use Rattle.mega_base.specs.declared.names.NodeId.{NodeId}
use Rattle.mega_base.specs.declared.names.OpId.{OpId}
use Rattle.mega_cluster.specs.declared.cluster.Cluster.{Cluster}
use Rattle.mega_handler.specs.Named.{Meanings}
use Rattle.mega_locks.specs.declared.asked.Asked.{Asked}
use Rattle.mega_locks.specs.declared.asked.Asked.TheVariants.{Granted, Renewed, GreaterHeld, Over}
use Rattle.mega_locks.specs.declared.lock.Lock.{Lock}
use Rattle.mega_locks.specs.declared.lock.Lock.TheVariants.{Free, Held, Ended}
use Rattle.mega_locks.specs.Rule.{answer, asked, held_epoch}
use Rattle.mega_locks.specs.History.{Asks, Call, first_term, lapse_for, lock_of, nodes as lock_nodes, renewal}
use Rattle.mega_coordinator.specs.declared.answers.Counted.{Counted}
use Rattle.mega_coordinator.specs.declared.answers.Counted.TheVariants.{No, Yes, Serving as ServingAnswer}
use Rattle.mega_coordinator.specs.History.{epoch_after, lease_of}
use Rattle.mega_coordinator.specs.Lease.{counted_by, granted_answer}
use Rattle.mega_wal.specs.History.{after_grant, after_lapse}
use Rattle.mega_wire.specs.declared.message.Message.{Message}
use Rattle.mega_wire.specs.declared.message.Body.{Body}
use Rattle.mega_wire.specs.declared.message.Body.TheVariants.{Acquire, Dead, Granted as GrantedBody, Unheld, Held as HeldBody, Where, Accept, Prepare, Fetch, Invalidate}
use Rattle.mega_lease_laws.specs.of_run_laws.of_tape_laws.of_promises.of_transcript.declared.item.Item.{Item}
use Rattle.mega_lease_laws.specs.of_run_laws.of_tape_laws.of_promises.of_transcript.declared.item.Item.TheVariants.{Answer as AnswerItem, Apply, Begin as BeginItem, Counts as CountsItem, Crash, Cut as CutItem, Decide as DecideItem, Dropped, Forgets as ForgetsItem, Grant, Invalid, Lapse, Lost, Sent, Serving, Start, Taken, Tick as TickItem, Unsent, Valid}
use Rattle.mega_lease_laws.specs.of_run_laws.of_tape_laws.of_promises.of_transcript.Tape.{sent_count}
use Rattle.mega_lease_laws.specs.of_run_laws.of_tape_laws.of_promises.Items.{number, shown}
use Rattle.mega_lease_laws.specs.of_run_laws.of_tape_laws.of_promises.Promises.{Stands}
use Rattle.mega_lease_laws.specs.of_run_laws.of_tape_laws.of_promises.Runs.{Happening, IsRun, Standing, is_durable, met_in, nothing_yet, owes, replies_in, set_at, setting, with_item, with_items}
use Rattle.mega_lease_laws.specs.of_run_laws.of_tape_laws.of_promises.of_rules.Met.{Met, Starts, Crashes, Ticks, Begins, Takes, Sends, Unsends, Grants, Lapses, Counts, Forgets, Serves, Loses, Validates, Invalidates, Decides, Applies, Answers}
use Rattle.mega_lease_laws.specs.of_run_laws.of_tape_laws.of_promises.of_rules.Clock.{clock_of, is_opening, is_up, start_of}
use Rattle.mega_lease_laws.specs.of_run_laws.of_tape_laws.of_promises.of_rules.Coordinators.{coordinator_calls, counts_notes, forget_notes, grant_notes, is_cell_in, lost_note, tick_told}
use Rattle.mega_lease_laws.specs.of_run_laws.of_tape_laws.of_promises.of_rules.Locks.{asked_for, cell_calls, grant_note, lapse_note, held_answer, held_at, lapses_at, last_grant, reopenings}
use Rattle.mega_lease_laws.specs.of_run_laws.of_tape_laws.of_promises.of_rules.Members.{cells, is_cell, is_full, is_node, keep_of}
use Rattle.mega_lease_laws.specs.of_run_laws.of_tape_laws.of_promises.of_rules.Operations.{Node, Setting}
use Rattle.mega_lease_laws.specs.of_run_laws.of_tape_laws.of_promises.of_rules.Replies.{answer_to, where_served}
use Rattle.mega_lease_laws.specs.of_run_laws.of_tape_laws.of_promises.of_rules.Members.{has_rows}
use Rattle.mega_lease_laws.specs.of_run_laws.of_tape_laws.of_promises.of_rules.Logs.{groups_of, prefix_of}
use Rattle.mega_lease_laws.specs.of_run_laws.of_tape_laws.of_promises.of_rules.Steps.{start_note}
use Rattle.mega_lease_laws.specs.of_run_laws.of_tape_laws.of_promises.of_rules.Steps.{Begin, Event, Step, Take, Tick, crashed, lapse_notes, lease_notes, onto, start, start_items, start_notes, step, told_notes}
use Rattle.mega_lease_laws.specs.of_run_laws.of_tape_laws.Places.{In}
use Rattle.mega_lease_laws.specs.of_run_laws.of_tape_laws.Lawful.{message}
use Rattle.mega_lease_laws.proofs.of_run_laws.of_tape_laws.Ballots.{number_is, number_self}
use Rattle.mega_lease_laws.proofs.of_run_laws.of_tape_laws.Lists.{some_is}
use Rattle.mega_lease_laws.specs.of_run_laws.Justified.{Each, sent}
use Rattle.mega_lease_laws.proofs.of_run_laws.Events.{each_append as each_both, onto_append}
use Rattle.mega_lease_laws.proofs.of_run_laws.Runs.{IsMark, nobody}
use Rattle.mega_lease_laws.proofs.of_run_laws.Standing.{Good}
use Rattle.mega_lease_laws.proofs.of_run_laws.Turns.{each_on}
use Rattle.mega_valid_laws.specs.of_settled_laws.Covering.{Earlier}
use Rattle.mega_lease_laws.proofs.of_run_laws.Shown.{IsSilent as SilentItem, notes_silent}
use Rattle.mega_valid_laws.proofs.of_settled_laws.Tapes.{earlier_stood, items_later, now_is, one_later, then_later}
use Rattle.mega_lease_laws.specs.Questions.{Asks as IsAsking, is_question}
use Rattle.mega_valid_laws.specs.Leases.{HoldsNone, granted_on}
use Rattle.mega_valid_laws.proofs.Epochs.{Shown, granted_shown}
use Rattle.mega_valid_laws.proofs.Folds.{IsOwn, IsOwnNote, TapeFold, sends_told, with_told, same_if, cond_as}
use Rattle.mega_lease_laws.proofs.of_run_laws.AnswerKinds.{IsAnswer, answer_kind}
use Rattle.mega_leased_laws.specs.Items.{Are}
use Rattle.mega_leased_laws.specs.Cells.{Frees, IsFreed}
use Rattle.mega_leased_laws.proofs.Forms.{Anything, Holds, Occurs, any_keeps, down, run_holds, stepped}
use Rattle.mega_leased_laws.proofs.Tails.{fronts}
use Rattle.mega_leased_laws.proofs.Notes.{IsRest, Origin, step_origins, step_parts}
use Rattle.mega_leased_laws.proofs.Tapes.{IsFree, are_items, are_sent, free_follows, free_notes}
use Rattle.mega_leased_laws.proofs.TapeIsMet.{cuts_told, falls_told, marks_told, starts_told, step_met, steps_told}
use Rattle.mega_leased_laws.proofs.Locks.{IsOwed, IsStill, IsUnmarked, Matches, asks_match, closed_by, closes_match, granted_by, lapse_marks, lapsed_by, lapses_are, last_after, last_onto, lock_after, marks_both, marks_for, opening_onto, opens_match, reopen_match, still_onto, ticks_match, unmarked}

-- ---- what a tape tells of a cell's grants

abbrev next_granted : ℕ → Met → Option (Epoch × Bool) → Option (Epoch × Bool)
next_granted node (Grants other epoch) before = cond (other == node) (after_grant before epoch) before
next_granted node (Lapses other epoch) before = cond (other == node) (after_lapse before epoch) before
next_granted node _ before = before

module _ (node : ℕ) where
  granted_told : (v : ℕ) (c : Cluster) (nodes : ℕ → Node) (tape : List Item) (item : Item) → granted_on (with_item c nodes tape item) v node ≡ granted_on (item ∷ tape) v node
  granted_told v c nodes tape item = with_told (λ t. granted_on t v node) (λ t. refl) c nodes tape item

  granted_one : (c : Cluster) (nodes : ℕ → Node) (me v : ℕ) (note : Met) (tape : List Item)
      → granted_on (with_items c nodes tape (shown me note)) v node ≡ cond (me == v) (next_granted node note (granted_on tape v node)) (granted_on tape v node)
  granted_one c nodes me v (Grants other epoch) tape = granted_told v c nodes tape (Grant me (number other) epoch) ∙ cond_as (me == v) (other == node) (after_grant (granted_on tape v node) epoch) (granted_on tape v node)
  granted_one c nodes me v (Lapses other epoch) tape = granted_told v c nodes tape (Lapse me (number other) epoch) ∙ cond_as (me == v) (other == node) (after_lapse (granted_on tape v node) epoch) (granted_on tape v node)
  granted_one c nodes me v (Starts start) tape = granted_told v c nodes tape (Start (number me) start) ∙ same_if (me == v) (granted_on tape v node)
  granted_one c nodes me v Crashes tape = granted_told v c nodes tape (Crash (number me)) ∙ same_if (me == v) (granted_on tape v node)
  granted_one c nodes me v (Ticks now) tape = granted_told v c nodes tape (TickItem (number me) now) ∙ same_if (me == v) (granted_on tape v node)
  granted_one c nodes me v (Begins op text) tape = granted_told v c nodes tape (BeginItem op text) ∙ same_if (me == v) (granted_on tape v node)
  granted_one c nodes me v (Takes message) tape = same_if (me == v) (granted_on tape v node)
  granted_one c nodes me v (Sends message) tape = same_if (me == v) (granted_on tape v node)
  granted_one c nodes me v (Unsends message) tape = granted_told v c nodes tape (Unsent (number me) message) ∙ same_if (me == v) (granted_on tape v node)
  granted_one c nodes me v (Counts cell epoch) tape = granted_told v c nodes tape (CountsItem (number me) cell epoch) ∙ same_if (me == v) (granted_on tape v node)
  granted_one c nodes me v (Forgets cell epoch) tape = granted_told v c nodes tape (ForgetsItem (number me) cell epoch) ∙ same_if (me == v) (granted_on tape v node)
  granted_one c nodes me v (Serves epoch) tape = granted_told v c nodes tape (Serving (number me) epoch) ∙ same_if (me == v) (granted_on tape v node)
  granted_one c nodes me v (Loses epoch) tape = granted_told v c nodes tape (Lost (number me) epoch) ∙ same_if (me == v) (granted_on tape v node)
  granted_one c nodes me v (Validates group position) tape = granted_told v c nodes tape (Valid (number me) group (record { 0 = position })) ∙ same_if (me == v) (granted_on tape v node)
  granted_one c nodes me v (Invalidates group position) tape = granted_told v c nodes tape (Invalid (number me) group (record { 0 = position })) ∙ same_if (me == v) (granted_on tape v node)
  granted_one c nodes me v (Decides group position entry) tape = granted_told v c nodes tape (DecideItem (number me) group (record { 0 = position }) entry) ∙ same_if (me == v) (granted_on tape v node)
  granted_one c nodes me v (Applies group position) tape = granted_told v c nodes tape (Apply (number me) group (record { 0 = position })) ∙ same_if (me == v) (granted_on tape v node)
  granted_one c nodes me v (Answers op answer) tape = granted_told v c nodes tape (AnswerItem op answer) ∙ same_if (me == v) (granted_on tape v node)

  granted_own : (item : Item) → IsOwn item → (tape : List Item) (v : ℕ) → granted_on (item ∷ tape) v node ≡ granted_on tape v node
  granted_own (Taken j) is tape v = refl
  granted_own (Dropped j) is tape v = refl
  granted_own CutItem is tape v = refl
  granted_own (TickItem who now) is tape v = refl
  granted_own (BeginItem op text) is tape v = refl
  granted_own _ is tape v = absurd is

  granted_note : (one : Met) → IsOwnNote one → (x : Option (Epoch × Bool)) → next_granted node one x ≡ x
  granted_note (Takes message) is x = refl
  granted_note (Ticks now) is x = refl
  granted_note (Begins op text) is x = refl
  granted_note _ is x = absurd is

  tells_granted : TapeFold (Option (Epoch × Bool)) (λ tape v. granted_on tape v node) (next_granted node)
  tells_granted = record { unsafe = λ tape v. refl; sends = λ k m tape v. refl; one = granted_one; sent_met = λ m x. refl; own = granted_own; own_note = granted_note }

  granted_each : (one : Met) (met : List Met) → last_grant (one ∷ met) node ≡ next_granted node one (last_grant met node)
  granted_each (Grants other epoch) met = refl
  granted_each (Lapses other epoch) met = refl
  granted_each _ met = refl

-- ---- who is asked, and who is granted

abbrev pub AskedFull : Cluster → ℕ → Body → Type 0
AskedFull c from (Acquire cell epoch clock) = is_full c from ≡ true
AskedFull c from _ = Unit {0}

abbrev pub IsAsked : Cluster → List Item → Item → Type 0
IsAsked c before (Sent key m) = AskedFull c m.from m.body
IsAsked c before _ = Unit {0}

abbrev pub IsGiven : Cluster → List Item → Item → Type 0
IsGiven c before (Grant cell node epoch) = is_full c node.0 ≡ true
IsGiven c before _ = Unit {0}

-- what is said of each grant
abbrev pub GrantNote : (ℕ → Epoch → Type 0) → Met → Type 0
GrantNote F (Grants node epoch) = F node epoch
GrantNote F _ = Unit {0}

abbrev pub Full : Cluster → ℕ → Epoch → Type 0
Full c node epoch = is_full c node ≡ true

-- and of what is taken
abbrev pub AskedFor : (ℕ → Epoch → Type 0) → ℕ → Body → Type 0
AskedFor F from (Acquire cell epoch clock) = F from epoch
AskedFor F from _ = Unit {0}

abbrev pub EventAsks : (ℕ → Epoch → Type 0) → Event → Type 0
EventAsks F (Take m) = AskedFor F m.from m.body
EventAsks F (Tick now) = Unit {0}
EventAsks F (Begin request text) = Unit {0}

pub of_asked : (c : Cluster) (tape : List Item) (key : ℕ) (m : Message) → Are (IsAsked c) tape → Stands (Sent key m) tape → AskedFull c m.from m.body
of_asked c [] key m h s = absurd s
of_asked c (other ∷ before) key m h (inl same) = subst (IsAsked c before) same h.0
of_asked c (other ∷ before) key m h (inr s) = of_asked c before key m h.1 s

pub of_given : (c : Cluster) (tape : List Item) (cell : ℕ) (node : NodeId) (epoch : Epoch) → Are (IsGiven c) tape → Stands (Grant cell node epoch) tape → is_full c node.0 ≡ true
of_given c [] cell node epoch h s = absurd s
of_given c (other ∷ before) cell node epoch h (inl same) = subst (IsGiven c before) same h.0
of_given c (other ∷ before) cell node epoch h (inr s) = of_given c before cell node epoch h.1 s

-- notes of the rest say nothing of this
pub rest_given : (F : ℕ → Epoch → Type 0) (notes : List Met) → Each IsRest notes → Each (GrantNote F) notes
rest_given F notes h = each_on IsRest (GrantNote F) one notes h
  where
    one : (note : Met) → IsRest note → GrantNote F note
    one (Grants node epoch) is = absurd is
    one _ is = tt

given_shown : (c : Cluster) (me : ℕ) (nodes : ℕ → Node) (note : Met) → GrantNote (Full c) note → Each (IsFree (IsGiven c) (λ t. tt) c nodes) (shown me note)
given_shown c me nodes (Grants node epoch) h = (λ t. h, tt)
given_shown c me nodes (Starts start) h = (λ t. tt, tt)
given_shown c me nodes Crashes h = (λ t. tt, tt)
given_shown c me nodes (Ticks now) h = (λ t. tt, tt)
given_shown c me nodes (Begins op text) h = (λ t. tt, tt)
given_shown c me nodes (Takes message) h = tt
given_shown c me nodes (Sends message) h = tt
given_shown c me nodes (Unsends message) h = (λ t. tt, tt)
given_shown c me nodes (Lapses node epoch) h = (λ t. tt, tt)
given_shown c me nodes (Counts cell epoch) h = (λ t. tt, tt)
given_shown c me nodes (Forgets cell epoch) h = (λ t. tt, tt)
given_shown c me nodes (Serves epoch) h = (λ t. tt, tt)
given_shown c me nodes (Loses epoch) h = (λ t. tt, tt)
given_shown c me nodes (Validates group position) h = (λ t. tt, tt)
given_shown c me nodes (Invalidates group position) h = (λ t. tt, tt)
given_shown c me nodes (Decides group position entry) h = (λ t. tt, tt)
given_shown c me nodes (Applies group position) h = (λ t. tt, tt)
given_shown c me nodes (Answers op answer) h = (λ t. tt, tt)

-- ---- what a step notes of one node

rest_unmarked : (notes : List Met) → Each IsRest notes → Each IsUnmarked notes
rest_unmarked notes h = each_on IsRest IsUnmarked one notes h
  where
    one : (note : Met) → IsRest note → IsUnmarked note
    one (Grants node epoch) is = absurd is
    one (Lapses node epoch) is = absurd is
    one _ is = tt

rest_still : (notes : List Met) → Each IsRest notes → Each IsStill notes
rest_still notes h = each_on IsRest IsStill one notes h
  where
    one : (note : Met) → IsRest note → IsStill note
    one (Starts start) is = absurd is
    one Crashes is = absurd is
    one (Ticks now) is = absurd is
    one (Takes message) is = absurd is
    one _ is = tt

-- a note of a coordinator, or of an invalidation: no mark, and nothing told
abbrev IsLease : Met → Type 0
IsLease (Counts cell epoch) = Unit {0}
IsLease (Forgets cell epoch) = Unit {0}
IsLease (Serves epoch) = Unit {0}
IsLease (Loses epoch) = Unit {0}
IsLease (Invalidates group position) = Unit {0}
IsLease _ = ⊥

lease_unmarked : (notes : List Met) → Each IsLease notes → Each IsUnmarked notes
lease_unmarked notes h = each_on IsLease IsUnmarked one notes h
  where
    one : (note : Met) → IsLease note → IsUnmarked note
    one (Grants node epoch) is = absurd is
    one (Lapses node epoch) is = absurd is
    one _ is = tt

lease_still : (notes : List Met) → Each IsLease notes → Each IsStill notes
lease_still notes h = each_on IsLease IsStill one notes h
  where
    one : (note : Met) → IsLease note → IsStill note
    one (Starts start) is = absurd is
    one Crashes is = absurd is
    one (Ticks now) is = absurd is
    one (Takes message) is = absurd is
    one _ is = tt

lease_given : (F : ℕ → Epoch → Type 0) (notes : List Met) → Each IsLease notes → Each (GrantNote F) notes
lease_given F notes h = each_on IsLease (GrantNote F) one notes h
  where
    one : (note : Met) → IsLease note → GrantNote F note
    one (Grants node epoch) is = absurd is
    one _ is = tt

lease_if : (t : Bool) (xs : List Met) → Each IsLease xs → Each IsLease (cond t xs [])
lease_if true xs h = h
lease_if false xs h = tt

counts_lease : (cell : ℕ) (epoch : Epoch) (was : Bool) (a : Counted) → Each IsLease (counts_notes cell epoch was a)
counts_lease cell epoch was No = tt
counts_lease cell epoch was Yes = by was
  where
    by : (t : Bool) → Each IsLease (cond t [] (Counts cell epoch ∷ []))
    by true = tt
    by false = (tt, tt)
counts_lease cell epoch was ServingAnswer = by was
  where
    by : (t : Bool) → Each IsLease (cond t [] (Counts cell epoch ∷ []) ++ Serves epoch ∷ [])
    by true = (tt, tt)
    by false = (tt, (tt, tt))

granted_lease : (c : Cluster) (met : List Met) (cell : ℕ) (epoch : Epoch) (clock : ℕ) → Each IsLease (grant_notes c met cell epoch clock)
granted_lease c met cell epoch clock = counts_lease cell epoch (is_some (counted_by (lease_of (start_of met) c.cells (coordinator_calls c met)) cell))
    (granted_answer (start_of met) c.cells (lease_of (start_of met) c.cells (coordinator_calls c met)) cell epoch (clock + c.lease) (clock_of met))

forget_lease : (o : Option Epoch) (cells : List ℕ) → Each IsLease (forget_notes o cells)
forget_lease None cells = tt
forget_lease (Some epoch) [] = tt
forget_lease (Some epoch) (cell ∷ cells) = (tt, forget_lease (Some epoch) cells)

lost_lease : (o : Option Epoch) → Each IsLease (lost_note o)
lost_lease None = tt
lost_lease (Some epoch) = (tt, tt)

lease_leases : (s : Setting) (met : List Met) (now : ℕ) → Each IsLease (lease_notes s met now)
lease_leases s met now = lease_if (is_full s.cluster s.me) _
    (each_both IsLease (forget_notes (epoch_after (start_of met) s.cluster.cells (coordinator_calls s.cluster met)) (filter (is_cell_in (tick_told s.cluster met now).forgot) (cells s.cluster))) (lost_note (tick_told s.cluster met now).lost)
    (forget_lease (epoch_after (start_of met) s.cluster.cells (coordinator_calls s.cluster met)) (filter (is_cell_in (tick_told s.cluster met now).forgot) (cells s.cluster))) (lost_lease (tick_told s.cluster met now).lost))

-- what a tick, or a message, marks of a node
abbrev grant_marks : Epoch → Asked → List (Epoch × Bool)
grant_marks epoch Granted = (epoch, true) ∷ []
grant_marks epoch _ = []

abbrev asked_marks : Setting → List Met → ℕ → ℕ → Body → List (Epoch × Bool)
asked_marks s met k from (Acquire cell epoch clock) = cond (cell == s.me) (cond (from == k) (grant_marks epoch (asked_for s.cluster s.me met from epoch)) []) []
asked_marks s met k from _ = []

abbrev event_marks : Setting → List Met → ℕ → Event → List (Epoch × Bool)
event_marks s met k (Tick now) = lapse_marks (lapse_for (cell_calls s.cluster s.me met) now (keep_of s.cluster) k)
event_marks s met k (Take m) = asked_marks s met k m.from m.body
event_marks s met k (Begin request text) = []

granted_marks : (k from : ℕ) (epoch : Epoch) (a : Asked) → marks_for k (grant_note from epoch a) ≡ cond (from == k) (grant_marks epoch a) []
granted_marks k from epoch Granted = refl
granted_marks k from epoch Renewed = same_if (from == k) []
granted_marks k from epoch (GreaterHeld greatest) = same_if (from == k) []
granted_marks k from epoch (Over greatest) = same_if (from == k) []

module _ (s : Setting) (met : List Met) (k : ℕ) (cell_is : is_cell s.cluster s.me ≡ true) where
  housed : nat_le s.me s.cluster.cells ≡ true
  housed = (and_parts (nat_le 1 s.me) (nat_le s.me s.cluster.cells) cell_is).1

  told_marks : (from : ℕ) (body : Body) → marks_for k (told_notes s met from body) ≡ asked_marks s met k from body
  told_marks from (Acquire cell epoch clock) = by (cell == s.me)
    where
      by : (t : Bool) → marks_for k (cond (t && nat_le s.me s.cluster.cells) (grant_note from epoch (asked_for s.cluster s.me met from epoch)) []) ≡ cond t (cond (from == k) (grant_marks epoch (asked_for s.cluster s.me met from epoch)) []) []
      by true = ap (λ t. marks_for k (cond t (grant_note from epoch (asked_for s.cluster s.me met from epoch)) [])) housed ∙ granted_marks k from epoch (asked_for s.cluster s.me met from epoch)
      by false = refl
  told_marks from (GrantedBody cell epoch clock) = unmarked k (cond (is_full s.cluster s.me && nat_le cell s.cluster.cells) (grant_notes s.cluster met cell epoch clock) [])
      (lease_unmarked _ (lease_if (is_full s.cluster s.me && nat_le cell s.cluster.cells) (grant_notes s.cluster met cell epoch clock) (granted_lease s.cluster met cell epoch clock)))
  told_marks from (Invalidate op group position) = unmarked k (cond (is_full s.cluster s.me) (Invalidates group position.0 ∷ []) []) (lease_unmarked _ (lease_if (is_full s.cluster s.me) (Invalidates group position.0 ∷ []) (tt, tt)))
  told_marks from _ = refl

  lapses_marks : (now : ℕ) → In k lock_nodes → marks_for k (lapse_notes s met now) ≡ lapse_marks (lapse_for (cell_calls s.cluster s.me met) now (keep_of s.cluster) k)
  lapses_marks now is = ap (λ t. marks_for k (cond t (lapses_at s.cluster s.me met now) [])) housed ∙ lapses_are k (λ node. lapse_for (cell_calls s.cluster s.me met) now (keep_of s.cluster) node) is

module _ (s : Setting) (node : Node) (k : ℕ) (is : In k lock_nodes) (cell_is : is_cell s.cluster s.me ≡ true) where
  front_marks : (event : Event) → marks_for k (fronts s node event) ≡ event_marks s node.met k event
  front_marks (Tick now) = marks_both k (lease_notes s node.met now) (lapse_notes s node.met now)
      ∙ ap (λ ms. ms ++ marks_for k (lapse_notes s node.met now)) (unmarked k (lease_notes s node.met now) (lease_unmarked (lease_notes s node.met now) (lease_leases s node.met now)))
      ∙ lapses_marks s node.met k cell_is now is
  front_marks (Take m) = told_marks s node.met k cell_is m.from m.body
  front_marks (Begin request text) = refl

  step_marks : (event : Event) → marks_for k (step s node event).notes ≡ event_marks s node.met k event
  step_marks event = let parts = step_parts s node event in
      ap (marks_for k) parts.is ∙ marks_both k (fronts s node event) parts.rest
      ∙ ap (λ ms. marks_for k (fronts s node event) ++ ms) (unmarked k parts.rest (rest_unmarked parts.rest parts.each))
      ∙ append-nil (marks_for k (fronts s node event)) ∙ front_marks event

-- each note of a step tells the cell nothing more
told_still : (s : Setting) (met : List Met) (from : ℕ) (body : Body) → Each IsStill (told_notes s met from body)
told_still s met from (Acquire cell epoch clock) = by (cell == s.me && nat_le s.me s.cluster.cells) (asked_for s.cluster s.me met from epoch)
  where
    by : (t : Bool) (a : Asked) → Each IsStill (cond t (grant_note from epoch a) [])
    by false a = tt
    by true Granted = (tt, tt)
    by true Renewed = tt
    by true (GreaterHeld greatest) = tt
    by true (Over greatest) = tt
told_still s met from (GrantedBody cell epoch clock) = lease_still _ (lease_if (is_full s.cluster s.me && nat_le cell s.cluster.cells) (grant_notes s.cluster met cell epoch clock) (granted_lease s.cluster met cell epoch clock))
told_still s met from (Invalidate op group position) = lease_still _ (lease_if (is_full s.cluster s.me) (Invalidates group position.0 ∷ []) (tt, tt))
told_still s met from _ = tt

lapses_still : (s : Setting) (met : List Met) (now : ℕ) → Each IsStill (lapse_notes s met now)
lapses_still s met now = by (nat_le s.me s.cluster.cells)
  where
    one : (node : ℕ) (o : Option Epoch) → Each IsStill (lapse_note node o)
    one node None = tt
    one node (Some e) = (tt, tt)

    all : (those : List ℕ) → Each IsStill (flat_map (λ node. lapse_note node (lapse_for (cell_calls s.cluster s.me met) now (keep_of s.cluster) node)) those)
    all [] = tt
    all (node ∷ those) = each_both IsStill (lapse_note node (lapse_for (cell_calls s.cluster s.me met) now (keep_of s.cluster) node)) _ (one node (lapse_for (cell_calls s.cluster s.me met) now (keep_of s.cluster) node)) (all those)

    by : (t : Bool) → Each IsStill (cond t (lapses_at s.cluster s.me met now) [])
    by true = all lock_nodes
    by false = tt

fronts_still : (s : Setting) (node : Node) (event : Event) → Each IsStill (fronts s node event)
fronts_still s node (Tick now) = each_both IsStill (lease_notes s node.met now) (lapse_notes s node.met now) (lease_still (lease_notes s node.met now) (lease_leases s node.met now)) (lapses_still s node.met now)
fronts_still s node (Take m) = told_still s node.met m.from m.body
fronts_still s node (Begin request text) = tt

pub step_still : (s : Setting) (node : Node) (event : Event) → Each IsStill (step s node event).notes
step_still s node event = let parts = step_parts s node event in
    subst (Each IsStill) (sym parts.is) (each_both IsStill (fronts s node event) parts.rest (fronts_still s node event) (rest_still parts.rest parts.each))

pub sends_still : (ms : List Message) → Each IsStill (map Sends ms)
sends_still [] = tt
sends_still (m ∷ ms) = (tt, sends_still ms)

sends_unmarked : (ms : List Message) → Each IsUnmarked (map Sends ms)
sends_unmarked [] = tt
sends_unmarked (m ∷ ms) = (tt, sends_unmarked ms)

-- ---- what a step leaves of the cell

own_opening : (s : Setting) (met : List Met) (event : Event) → is_opening (met_in s met event ∷ met) ≡ false
own_opening s met (Tick now) = refl
own_opening s met (Take m) = refl
own_opening s met (Begin request text) = refl

own_last : (s : Setting) (met : List Met) (event : Event) (k : ℕ) → last_grant (met_in s met event ∷ met) k ≡ last_grant met k
own_last s met (Tick now) k = refl
own_last s met (Take m) k = refl
own_last s met (Begin request text) k = refl

lapse_last : (o : Option Epoch) (last : Option (Epoch × Bool)) → last_after (lapse_marks o) last ≡ lapsed_by o last
lapse_last None last = refl
lapse_last (Some e) last = refl

grant_last : (a : Asked) (e : Epoch) (last : Option (Epoch × Bool)) → last_after (grant_marks e a) last ≡ granted_by a e last
grant_last Granted e last = refl
grant_last Renewed e last = refl
grant_last (GreaterHeld greatest) e last = refl
grant_last (Over greatest) e last = refl

lapse_lock : (o : Option Epoch) (lock : Lock) → lock_after (lapse_marks o) lock ≡ closed_by o lock
lapse_lock None lock = refl
lapse_lock (Some e) lock = refl

module _ (s : Setting) (met : List Met) (k : ℕ) (cell_is : is_cell s.cluster s.me ≡ true) (h : Matches (lock_of (cell_calls s.cluster s.me met) k) (last_grant met k)) where
  abbrev calls : List Call
  calls = cell_calls s.cluster s.me met

  -- what it takes is what it is asked
  take_match : (from to : ℕ) (body : Body) → Matches (lock_of (cell_calls s.cluster s.me (Takes (record { from = from; to = to; body = body }) ∷ met)) k) (last_after (asked_marks s met k from body) (last_grant met k))
  take_match from to (Acquire cell epoch clock) = by (cell == s.me)
    where
      within : (t : Bool) → (from == k) ≡ t → Matches (cond t (asked (lock_of calls k) epoch (renewal calls (clock_of met) (keep_of s.cluster))) (lock_of calls k)) (last_after (cond t (grant_marks epoch (answer (lock_of calls from) epoch)) []) (last_grant met k))
      within true e = subst (λ v. Matches (asked (lock_of calls k) epoch (renewal calls (clock_of met) (keep_of s.cluster))) (last_after (grant_marks epoch (answer (lock_of calls v) epoch)) (last_grant met k))) (sym (number_is from k e))
          (subst (Matches (asked (lock_of calls k) epoch (renewal calls (clock_of met) (keep_of s.cluster)))) (sym (grant_last (answer (lock_of calls k) epoch) epoch (last_grant met k)))
          (asks_match (lock_of calls k) (last_grant met k) epoch (renewal calls (clock_of met) (keep_of s.cluster)) h))
      within false e = h

      by : (t : Bool) → Matches (lock_of (cond (t && is_cell s.cluster s.me) (Asks from epoch (clock_of met) (keep_of s.cluster) ∷ []) [] ++ calls) k)
          (last_after (cond t (cond (from == k) (grant_marks epoch (asked_for s.cluster s.me met from epoch)) []) []) (last_grant met k))
      by true = subst (λ t. Matches (lock_of (cond t (Asks from epoch (clock_of met) (keep_of s.cluster) ∷ []) [] ++ calls) k) (last_after (cond (from == k) (grant_marks epoch (asked_for s.cluster s.me met from epoch)) []) (last_grant met k))) (sym cell_is) (within (from == k) refl)
      by false = h
  take_match from to _ = h

  event_match : (event : Event) → Matches (lock_of (cell_calls s.cluster s.me (met_in s met event ∷ met)) k) (last_after (event_marks s met k event) (last_grant met k))
  event_match (Tick now) = subst (Matches (lock_of (cell_calls s.cluster s.me (Ticks now ∷ met)) k)) (sym (lapse_last (lapse_for calls now (keep_of s.cluster) k) (last_grant met k)))
      (ticks_match (lock_of calls k) (last_grant met k) (first_term calls now (keep_of s.cluster)) now h)
  event_match (Take m) = take_match m.from m.to m.body
  event_match (Begin request text) = h

  -- and what a start finds of it, where its record was kept
  kept_asked : (from : ℕ) (body : Body) (lock : Lock) → Matches lock (last_grant met k) → Matches (lock_after (asked_marks s met k from body) lock) (last_after (asked_marks s met k from body) (last_grant met k))
  kept_asked from (Acquire cell epoch clock) lock r = by (cell == s.me) (from == k) (asked_for s.cluster s.me met from epoch)
    where
      by : (t u : Bool) (a : Asked) → Matches (lock_after (cond t (cond u (grant_marks epoch a) []) []) lock) (last_after (cond t (cond u (grant_marks epoch a) []) []) (last_grant met k))
      by true true Granted = opens_match lock (last_grant met k) epoch r
      by true true Renewed = r
      by true true (GreaterHeld greatest) = r
      by true true (Over greatest) = r
      by true false a = r
      by false u a = r
  kept_asked from _ lock r = r

  kept_match : (event : Event) (lock : Lock) → Matches lock (last_grant met k) → Matches (lock_after (event_marks s met k event) lock) (last_after (event_marks s met k event) (last_grant met k))
  kept_match (Tick now) lock r = let o = lapse_for calls now (keep_of s.cluster) k in
      subst (λ l. Matches l (last_after (lapse_marks o) (last_grant met k))) (sym (lapse_lock o lock)) (subst (Matches (closed_by o lock)) (sym (lapse_last o (last_grant met k)))
      (closes_match (lock_of calls k) lock (last_grant met k) (first_term calls now (keep_of s.cluster)) now h r))
  kept_match (Take m) lock r = kept_asked m.from m.body lock r
  kept_match (Begin request text) lock r = r

-- a whole step
step_match : (s : Setting) (node : Node) (event : Event) (k : ℕ) → In k lock_nodes → is_cell s.cluster s.me ≡ true → Matches (lock_of (cell_calls s.cluster s.me node.met) k) (last_grant node.met k)
    → Matches (lock_of (cell_calls s.cluster s.me ((step s node event).node).met) k) (last_grant ((step s node event).node).met k)
step_match s node event k is cell_is h =
    subst (λ calls. Matches (lock_of calls k) (last_grant (made.node).met k)) (sym calls_is) (subst (Matches (lock_of (cell_calls s.cluster s.me first) k)) (sym last_is) (event_match s node.met k cell_is h event))
  where
    made : Step
    made = step s node event

    first : List Met
    first = met_in s node.met event ∷ node.met

    whole : (made.node).met ≡ onto (made.notes ++ map Sends made.sends) first
    whole = step_met s node event ∙ sym (onto_append made.notes (map Sends made.sends) first)

    calls_is : cell_calls s.cluster s.me (made.node).met ≡ cell_calls s.cluster s.me first
    calls_is = ap (cell_calls s.cluster s.me) whole ∙ still_onto s.cluster s.me (made.notes ++ map Sends made.sends) first (own_opening s node.met event) (each_both IsStill made.notes (map Sends made.sends) (step_still s node event) (sends_still made.sends))

    last_is : last_grant (made.node).met k ≡ last_after (event_marks s node.met k event) (last_grant node.met k)
    last_is = ap (λ met. last_grant met k) whole ∙ last_onto k (made.notes ++ map Sends made.sends) first
        ∙ ap (λ ms. last_after ms (last_grant first k)) (marks_both k made.notes (map Sends made.sends) ∙ ap (λ ms. marks_for k made.notes ++ ms) (unmarked k (map Sends made.sends) (sends_unmarked made.sends)) ∙ append-nil (marks_for k made.notes) ∙ step_marks s node k is cell_is event)
        ∙ ap (last_after (event_marks s node.met k event)) (own_last s node.met event k)

-- ---- standings

-- of one node that changed
pub by_node : (P : ℕ → Node → Type 0) (nodes : ℕ → Node) (me : ℕ) (node : Node) → P me node → ((v : ℕ) → (me == v) ≡ false → P v (nodes v)) → (v : ℕ) → P v (set_at nodes me node v)
by_node P nodes me node one rest v = by (me == v) refl
  where
    by : (t : Bool) → (me == v) ≡ t → P v (cond t node (nodes v))
    by true e = subst (λ w. P w node) (number_is me v e) one
    by false e = rest v e

pub by_both : (P : ℕ → Node → List Met → Type 0) (nodes : ℕ → Node) (owed : ℕ → List Met) (me : ℕ) (node : Node) (one : List Met) → P me node one → ((v : ℕ) → (me == v) ≡ false → P v (nodes v) (owed v)) → (v : ℕ) → P v (set_at nodes me node v) (set_at owed me one v)
by_both P nodes owed me node one mine rest v = by (me == v) refl
  where
    by : (t : Bool) → (me == v) ≡ t → P v (cond t node (nodes v)) (cond t one (owed v))
    by true e = subst (λ w. P w node one) (number_is me v e) mine
    by false e = rest v e

-- its lock, and what a start would find
pub record CellAt (c : Cluster) (me : ℕ) (node : Node) (owed : List Met) : Type 0 where
  pub locks : (k : ℕ) → is_cell c me ≡ true → In k lock_nodes → is_up node.met ≡ true → Matches (lock_of (cell_calls c me node.met) k) (last_grant node.met k)
  pub finds : (k : ℕ) → is_cell c me ≡ true → In k lock_nodes → Matches (lock_after (marks_for k owed) (lock_of (reopenings node.met) k)) (last_after (marks_for k owed) (last_grant node.met k))
  pub owes : Each IsOwed owed
  pub given : Each (GrantNote (Full c)) owed

pub record Celling (c : Cluster) (tape : List Item) (nodes : ℕ → Node) (owed : ℕ → List Met) : Type 0 where
  pub freed : Are IsFreed tape
  pub asked : Are (IsAsked c) tape
  pub grants : Are (IsGiven c) tape
  pub granted : (k v : ℕ) → granted_on tape v k ≡ last_grant (nodes v).met k
  pub cell : (v : ℕ) → CellAt c v (nodes v) (owed v)

silent_freed : (t : List Item) (item : Item) → SilentItem item → IsFreed t item
silent_freed t (Sent key m) h = absurd h
silent_freed t _ h = tt

silent_asked : (c : Cluster) (t : List Item) (item : Item) → SilentItem item → IsAsked c t item
silent_asked c t (Sent key m) h = absurd h
silent_asked c t _ h = tt

-- messages
record SendsWell (c : Cluster) (m : Message) (t : List Item) : Type 0 where
  frees : Frees t m m.body
  asks : AskedFull c m.from m.body

frees_on : (q : Message) (key : ℕ) (t : List Item) (m : Message) (body : Body) → Frees t m body → Frees (Sent key q ∷ t) m body
frees_on q key t m (Unheld op cell node) h = record { own = h.own; none = h.none; key = h.key; asker = h.asker; asked = inr h.asked }
frees_on q key t m _ h = tt

question_frees : (t : List Item) (m : Message) (body : Body) → is_question body ≡ true → Frees t m body
question_frees t m (Unheld op cell node) is = cc
question_frees t m _ is = tt

question_asks : (c : Cluster) (from : ℕ) (body : Body) → is_question body ≡ true → AskedFull c from body
question_asks c from (Acquire cell epoch clock) is = cc
question_asks c from _ is = tt

-- ---- a reply

-- the cell holds nothing
none_held : (lock : Lock) (last : Option (Epoch × Bool)) → Matches lock last → held_epoch lock ≡ None → HoldsNone last
none_held Free None h e = tt
none_held Free (Some last) h e = absurd h
none_held (Held g was) last h e = cc
none_held (Ended g) None h e = absurd h
none_held (Ended g) (Some last) h e = h.1

in_nine : (n : ℕ) → 1 ≤ n → n ≤ 9 → In n lock_nodes
in_nine zero a b = absurd (none a)
  where
    none : 1 ≤ 0 → ⊥
    none h = omega (arith, h)
in_nine (suc zero) a b = inl refl
in_nine (suc (suc zero)) a b = inr (inl refl)
in_nine (suc (suc (suc zero))) a b = inr (inr (inl refl))
in_nine (suc (suc (suc (suc zero)))) a b = inr (inr (inr (inl refl)))
in_nine (suc (suc (suc (suc (suc zero))))) a b = inr (inr (inr (inr (inl refl))))
in_nine (suc (suc (suc (suc (suc (suc zero)))))) a b = inr (inr (inr (inr (inr (inl refl)))))
in_nine (suc (suc (suc (suc (suc (suc (suc zero))))))) a b = inr (inr (inr (inr (inr (inr (inl refl))))))
in_nine (suc (suc (suc (suc (suc (suc (suc (suc zero)))))))) a b = inr (inr (inr (inr (inr (inr (inr (inl refl)))))))
in_nine (suc (suc (suc (suc (suc (suc (suc (suc (suc zero))))))))) a b = inr (inr (inr (inr (inr (inr (inr (inr (inl refl))))))))
in_nine (suc (suc (suc (suc (suc (suc (suc (suc (suc (suc n)))))))))) a b = absurd (too_great n b)
  where
    too_great : (n : ℕ) → suc (suc (suc (suc (suc (suc (suc (suc (suc (suc n))))))))) ≤ 9 → ⊥
    too_great n h = omega (arith, h)

least : (a b : ℕ) → nat_le a b ≡ true → a ≤ b
least a b h = grind (arith, nat_tests)

pub full_nine : (c : Cluster) (node : ℕ) → length c.nodes ≤ 9 → is_full c node ≡ true → In node lock_nodes
full_nine c node few full =
    let is = (and_parts (is_node c node) _ full).0 in
    let parts = and_parts (nat_le 1 node) (nat_le node (length c.nodes)) is in
    let one = least 1 node parts.0 in let most = least node (length c.nodes) parts.1 in
    in_nine node one (omega (arith, most, few))

-- what is granted to a node is granted to a full one
last_given : (c : Cluster) (tape : List Item) (cell node : ℕ) → Are (IsGiven c) tape → (o : Option (Epoch × Bool)) → granted_on tape cell node ≡ o → (o ≡ None) ⊎ (is_full c node ≡ true)
last_given c tape cell node given None is = inl refl
last_given c tape cell node given (Some last) is = inr (by (granted_shown cell node tape))
  where
    by : Shown cell node tape (granted_on tape cell node) → is_full c node ≡ true
    by h = of_given c tape cell (number node) last.0 given (subst (Shown cell node tape) is h).0

-- a question whether a cell holds something
abbrev NotDead : Body → Type 0
NotDead (Dead op cell node) = ⊥
NotDead _ = Unit {0}

abbrev IsDead : Body → Type 0
IsDead (Dead op cell node) = Unit {0}
IsDead _ = ⊥

module _ (c : Cluster) (few : length c.nodes ≤ 9) (tape : List Item) (nodes : ℕ → Node) (owed : ℕ → List Met) (q : Celling c tape nodes owed) (me : ℕ) (up : is_up (nodes me).met ≡ true) where
  holds_none : (node : ℕ) → is_cell c me ≡ true → held_at c me (nodes me).met node ≡ None → HoldsNone (granted_on tape me node)
  holds_none node cell_is none = by (last_given c tape me node q.grants (granted_on tape me node) refl)
    where
      by : (granted_on tape me node ≡ None) ⊎ (is_full c node ≡ true) → HoldsNone (granted_on tape me node)
      by (inl is) = subst HoldsNone (sym is) tt
      by (inr full) = subst HoldsNone (sym (q.granted node me)) (none_held (lock_of (cell_calls c me (nodes me).met) node) (last_grant (nodes me).met node) ((q.cell me).locks node cell_is (full_nine c node few full) up) none)

  free_by : (t : List Item) → ((k : ℕ) → granted_on t me k ≡ granted_on tape me k) → (j : ℕ) (asker : ℕ) (op : OpId) (cell : ℕ) (node : NodeId) (m : Message) → Stands (Sent j (message asker me (Dead op cell node))) t
      → (o : Option Epoch) → held_at c me (nodes me).met node.0 ≡ o → (b : Bool) → (cell == me && is_cell c me) ≡ b → m.from ≡ me → where_served b (held_answer op cell node o) ≡ Some m.body → Frees t m m.body
  free_by t same j asker op cell node m stands o held false cell_is from is = absurd (let none = is in cc)
  free_by t same j asker op cell node m stands (Some epoch) held true cell_is from is = subst (Frees t m) (some_is (HeldBody op cell node) m.body is) tt
  free_by t same j asker op cell node m stands None held true cell_is from is = subst (Frees t m) (some_is (Unheld op cell node) m.body is) (record {
    own = from ∙ sym own;
    none = subst (λ v. HoldsNone (granted_on t v node.0)) (sym own) (subst HoldsNone (sym (same node.0)) (holds_none node.0 parts.1 held));
    key = j;
    asker = asker;
    asked = subst (λ v. Stands (Sent j (message asker v (Dead op cell node))) t) (sym own) stands;
  })
    where
      parts : ((cell == me) ≡ true) × (is_cell c me ≡ true)
      parts = and_parts (cell == me) (is_cell c me) cell_is

      own : cell ≡ me
      own = number_is cell me parts.0

  -- a body that says nothing of this
  abbrev OtherBody : Body → Type 0
  OtherBody (Unheld op cell node) = ⊥
  OtherBody (Acquire cell epoch clock) = ⊥
  OtherBody _ = Unit {0}

  other_frees : (t : List Item) (m : Message) (body : Body) → OtherBody body → Frees t m body
  other_frees t m (Unheld op cell node) h = absurd h
  other_frees t m _ h = tt

  other_asks : (from : ℕ) (body : Body) → OtherBody body → AskedFull c from body
  other_asks from (Acquire cell epoch clock) h = absurd h
  other_asks from _ h = tt

  abbrev mine : List Met
  mine = (nodes me).met

  no_unheld : (asked : Body) → NotDead asked → (op : OpId) (cell : ℕ) (node : NodeId) → IsAnswer asked (Unheld op cell node) → ⊥
  no_unheld (Dead o k n) not op cell node h = not
  no_unheld _ not op cell node h = h

  no_acquire : (asked : Body) (cell : ℕ) (epoch : Epoch) (clock : ℕ) → IsAnswer asked (Acquire cell epoch clock) → ⊥
  no_acquire (Where o g) cell epoch clock h = h
  no_acquire _ cell epoch clock h = h

  answer_other : (from : ℕ) (body reply : Body) → NotDead body → answer_to c me mine from body ≡ Some reply → OtherBody reply
  answer_other from body reply not k = by reply (answer_kind c me mine from body reply k)
    where
      by : (r : Body) → IsAnswer body r → OtherBody r
      by (Unheld op cell node) h = no_unheld body not op cell node h
      by (Acquire cell epoch clock) h = no_acquire body cell epoch clock h
      by _ h = tt

  other_well : (t : List Item) (m : Message) → OtherBody m.body → SendsWell c m t
  other_well t m other = record { frees = other_frees t m m.body other; asks = other_asks m.from m.body other }

  reply_frees : (t : List Item) (j from to : ℕ) (body : Body) (m : Message) → (IsDead body → (k : ℕ) → granted_on t me k ≡ granted_on tape me k) → to ≡ me → Stands (Sent j (message from to body)) t → m.from ≡ me
      → answer_to c me mine from body ≡ Some m.body → SendsWell c m t
  reply_frees t j from to (Dead op cell node) m same own stands mine_is is = record {
    frees = free_by t (same tt) j from op cell node m (subst (λ v. Stands (Sent j (message from v (Dead op cell node))) t) own stands) (held_at c me mine node.0) refl (cell == me && is_cell c me) refl mine_is is;
    asks = held_asks (held_at c me mine node.0) (cell == me && is_cell c me) is;
  }
    where
      held_asks : (o : Option Epoch) (b : Bool) → where_served b (held_answer op cell node o) ≡ Some m.body → AskedFull c m.from m.body
      held_asks o false k = cc
      held_asks None true k = subst (AskedFull c m.from) (some_is (Unheld op cell node) m.body k) tt
      held_asks (Some epoch) true k = subst (AskedFull c m.from) (some_is (HeldBody op cell node) m.body k) tt
  reply_frees t j from to (Where op group) m same own stands mine_is is = other_well t m (answer_other from (Where op group) m.body tt is)
  reply_frees t j from to (Accept op group n b e) m same own stands mine_is is = other_well t m (answer_other from (Accept op group n b e) m.body tt is)
  reply_frees t j from to (Prepare op group n b) m same own stands mine_is is = other_well t m (answer_other from (Prepare op group n b) m.body tt is)
  reply_frees t j from to (Fetch op group n) m same own stands mine_is is = other_well t m (answer_other from (Fetch op group n) m.body tt is)
  reply_frees t j from to (Invalidate op group n) m same own stands mine_is is = other_well t m (answer_other from (Invalidate op group n) m.body tt is)
  reply_frees t j from to (Acquire cell epoch clock) m same own stands mine_is is = other_well t m (answer_other from (Acquire cell epoch clock) m.body tt is)
  reply_frees t j from to _ m same own stands mine_is is = absurd (let none = is in cc)

-- ---- forms

pub own_silent : (item : Item) → IsOwn item → SilentItem item
own_silent (Sent key m) h = absurd h
own_silent _ h = tt

own_given : (c : Cluster) (t : List Item) (item : Item) → IsOwn item → IsGiven c t item
own_given c t (Grant cell node epoch) h = absurd h
own_given c t _ h = tt

pub occurs_own : (tape : List Item) (s : Setting) (met : List Met) (item : Item) (event : Event) → Occurs tape s met item event → IsOwn item
occurs_own tape s met item (Tick clock) o = subst IsOwn (sym o) tt
occurs_own tape s met item (Take m) o = subst IsOwn (sym o.1) tt
occurs_own tape s met item (Begin request text) o = subst IsOwn (sym o) tt

pub own_noted : (s : Setting) (met : List Met) (event : Event) → IsOwnNote (met_in s met event)
own_noted s met (Tick clock) = tt
own_noted s met (Take m) = tt
own_noted s met (Begin request text) = tt

told_given : (F : ℕ → Epoch → Type 0) (s : Setting) (met : List Met) (from : ℕ) (body : Body) → AskedFor F from body → Each (GrantNote F) (told_notes s met from body)
told_given F s met from (Acquire cell epoch clock) full = by (cell == s.me && nat_le s.me s.cluster.cells) (asked_for s.cluster s.me met from epoch)
  where
    by : (t : Bool) (a : Asked) → Each (GrantNote F) (cond t (grant_note from epoch a) [])
    by false a = tt
    by true Granted = (full, tt)
    by true Renewed = tt
    by true (GreaterHeld greatest) = tt
    by true (Over greatest) = tt
told_given F s met from (GrantedBody cell epoch clock) full = lease_given F _ (lease_if (is_full s.cluster s.me && nat_le cell s.cluster.cells) (grant_notes s.cluster met cell epoch clock) (granted_lease s.cluster met cell epoch clock))
told_given F s met from (Invalidate op group position) full = lease_given F _ (lease_if (is_full s.cluster s.me) (Invalidates group position.0 ∷ []) (tt, tt))
told_given F s met from _ full = tt

lapses_given : (F : ℕ → Epoch → Type 0) (s : Setting) (met : List Met) (now : ℕ) → Each (GrantNote F) (lapse_notes s met now)
lapses_given F s met now = by (nat_le s.me s.cluster.cells)
  where
    one : (node : ℕ) (o : Option Epoch) → Each (GrantNote F) (lapse_note node o)
    one node None = tt
    one node (Some e) = (tt, tt)

    all : (those : List ℕ) → Each (GrantNote F) (flat_map (λ node. lapse_note node (lapse_for (cell_calls s.cluster s.me met) now (keep_of s.cluster) node)) those)
    all [] = tt
    all (node ∷ those) = each_both (GrantNote F) (lapse_note node (lapse_for (cell_calls s.cluster s.me met) now (keep_of s.cluster) node)) _ (one node (lapse_for (cell_calls s.cluster s.me met) now (keep_of s.cluster) node)) (all those)

    by : (t : Bool) → Each (GrantNote F) (cond t (lapses_at s.cluster s.me met now) [])
    by true = all lock_nodes
    by false = tt

fronts_given : (F : ℕ → Epoch → Type 0) (s : Setting) (node : Node) (event : Event) → EventAsks F event → Each (GrantNote F) (fronts s node event)
fronts_given F s node (Tick now) asked = each_both (GrantNote F) (lease_notes s node.met now) (lapse_notes s node.met now)
    (lease_given F (lease_notes s node.met now) (lease_leases s node.met now)) (lapses_given F s node.met now)
fronts_given F s node (Take m) asked = told_given F s node.met m.from m.body asked
fronts_given F s node (Begin request text) asked = tt

pub step_granted : (F : ℕ → Epoch → Type 0) (s : Setting) (node : Node) (event : Event) → EventAsks F event → Each (GrantNote F) (step s node event).notes
step_granted F s node event asked = let parts = step_parts s node event in
    subst (Each (GrantNote F)) (sym parts.is) (each_both (GrantNote F) (fronts s node event) parts.rest (fronts_given F s node event asked) (rest_given F parts.rest parts.each))

full_asked : (c : Cluster) (from : ℕ) (body : Body) → AskedFull c from body → AskedFor (Full c) from body
full_asked c from (Acquire cell epoch clock) h = h
full_asked c from _ h = tt

step_given : (s : Setting) (node : Node) (tape : List Item) (item : Item) (event : Event) → Are (IsAsked s.cluster) tape → Occurs tape s node.met item event → Each (GrantNote (Full s.cluster)) (step s node event).notes
step_given s node tape item (Tick now) asked o = step_granted (Full s.cluster) s node (Tick now) tt
step_given s node tape item (Take m) asked o = step_granted (Full s.cluster) s node (Take m) (full_asked s.cluster m.from m.body (of_asked s.cluster tape o.0 m asked o.2))
step_given s node tape item (Begin request text) asked o = step_granted (Full s.cluster) s node (Begin request text) tt

pub start_rest : (s : Setting) (met : List Met) → Each IsRest (start_notes s met)
start_rest s met = by (has_rows s.cluster s.me)
  where
    one : (group : GroupId) (t : Bool) → Each IsRest (cond t (Applies group (prefix_of met group) ∷ []) [])
    one group true = (tt, tt)
    one group false = tt

    all : (groups : List GroupId) → Each IsRest (flat_map (start_note met) groups)
    all [] = tt
    all (group ∷ groups) = each_both IsRest (start_note met group) (flat_map (start_note met) groups) (one group (nat_lt 0 (prefix_of met group))) (all groups)

    by : (t : Bool) → Each IsRest (cond t (flat_map (start_note met) (groups_of met)) [])
    by true = all (groups_of met)
    by false = tt

pub start_owed : (s : Setting) (met : List Met) → Each IsOwed (start_notes s met)
start_owed s met = by (has_rows s.cluster s.me)
  where
    one : (group : GroupId) (t : Bool) → Each IsOwed (cond t (Applies group (prefix_of met group) ∷ []) [])
    one group true = (tt, tt)
    one group false = tt

    all : (groups : List GroupId) → Each IsOwed (flat_map (start_note met) groups)
    all [] = tt
    all (group ∷ groups) = each_both IsOwed (start_note met group) (flat_map (start_note met) groups) (one group (nat_lt 0 (prefix_of met group))) (all groups)

    by : (t : Bool) → Each IsOwed (cond t (flat_map (start_note met) (groups_of met)) [])
    by true = all (groups_of met)
    by false = tt

-- what is durable of a step's notes
durable_marks : (k : ℕ) (notes : List Met) → marks_for k (filter is_durable notes) ≡ marks_for k notes
durable_marks k [] = refl
durable_marks k (Grants node epoch ∷ notes) = ap (λ ms. cond (node == k) ((epoch, true) ∷ ms) ms) (durable_marks k notes)
durable_marks k (Lapses node epoch ∷ notes) = ap (λ ms. cond (node == k) ((epoch, false) ∷ ms) ms) (durable_marks k notes)
durable_marks k (Decides group position entry ∷ notes) = durable_marks k notes
durable_marks k (Starts start ∷ notes) = durable_marks k notes
durable_marks k (Crashes ∷ notes) = durable_marks k notes
durable_marks k (Ticks now ∷ notes) = durable_marks k notes
durable_marks k (Begins op text ∷ notes) = durable_marks k notes
durable_marks k (Takes m ∷ notes) = durable_marks k notes
durable_marks k (Sends m ∷ notes) = durable_marks k notes
durable_marks k (Unsends m ∷ notes) = durable_marks k notes
durable_marks k (Counts cell epoch ∷ notes) = durable_marks k notes
durable_marks k (Forgets cell epoch ∷ notes) = durable_marks k notes
durable_marks k (Serves epoch ∷ notes) = durable_marks k notes
durable_marks k (Loses epoch ∷ notes) = durable_marks k notes
durable_marks k (Validates group position ∷ notes) = durable_marks k notes
durable_marks k (Invalidates group position ∷ notes) = durable_marks k notes
durable_marks k (Applies group position ∷ notes) = durable_marks k notes
durable_marks k (Answers op answer ∷ notes) = durable_marks k notes

durable_owed : (one : Met) → is_durable one ≡ true → IsOwed one
durable_owed (Grants node epoch) h = tt
durable_owed (Lapses node epoch) h = tt
durable_owed (Decides group position entry) h = tt
durable_owed _ h = cc

filtered : (P : Met → Type 0) (notes : List Met) → ((one : Met) → is_durable one ≡ true → P one) → Each P (filter is_durable notes)
filtered P [] f = tt
filtered P (one ∷ notes) f = by (is_durable one) refl (filtered P notes f)
  where
    by : (t : Bool) → is_durable one ≡ t → Each P (filter is_durable notes) → Each P (cond t (one ∷ filter is_durable notes) (filter is_durable notes))
    by true e rest = (f one e, rest)
    by false e rest = rest

pub filtered_each : (P : Met → Type 0) (notes : List Met) → Each P notes → Each P (filter is_durable notes)
filtered_each P [] h = tt
filtered_each P (one ∷ notes) h = by (is_durable one) (filtered_each P notes h.1)
  where
    by : (t : Bool) → Each P (filter is_durable notes) → Each P (cond t (one ∷ filter is_durable notes) (filter is_durable notes))
    by true rest = (h.0, rest)
    by false rest = rest

unsent_owed : (ms : List Message) → Each IsOwed (map Unsends ms)
unsent_owed [] = tt
unsent_owed (m ∷ ms) = (tt, unsent_owed ms)

unsent_given : (c : Cluster) (ms : List Message) → Each (GrantNote (Full c)) (map Unsends ms)
unsent_given c [] = tt
unsent_given c (m ∷ ms) = (tt, unsent_given c ms)

unsent_unmarked : (ms : List Message) → Each IsUnmarked (map Unsends ms)
unsent_unmarked [] = tt
unsent_unmarked (m ∷ ms) = (tt, unsent_unmarked ms)

own_reopens : (s : Setting) (met : List Met) (event : Event) → reopenings (Crashes ∷ met_in s met event ∷ met) ≡ reopenings met
own_reopens s met (Tick clock) = refl
own_reopens s met (Take m) = refl
own_reopens s met (Begin request text) = refl

told_dead : (s : Setting) (met : List Met) (from : ℕ) (body : Body) → IsDead body → told_notes s met from body ≡ []
told_dead s met from (Dead op cell node) h = refl
told_dead s met from _ h = absurd h

pub at_me : (nodes : ℕ → Node) (me : ℕ) (node : Node) → set_at nodes me node me ≡ node
at_me nodes me node = ap (λ t. cond t node (nodes me)) (number_self me)

module _ (c : Cluster) (few : length c.nodes ≤ 9) (h : Meanings) (now : Standing) (me : ℕ) (up : is_up (now.node me).met ≡ true) (q : Celling c now.tape now.node now.owed) where
  abbrev s : Setting
  s = setting c h me

  abbrev made : Event → Step
  made event = step s (now.node me) event

  abbrev nodes' : Event → ℕ → Node
  nodes' event = set_at now.node me (made event).node

  abbrev items : Event → List Item
  items event = flat_map (shown me) (made event).notes

  abbrev second : Item → Event → List Item
  second item event = with_items c (nodes' event) (item ∷ now.tape) (items event)

  second_later : (item : Item) (event : Event) → Earlier now.tape (second item event)
  second_later item event = then_later now.tape (item ∷ now.tape) (second item event) (one_later now.tape now.tape item (now_is now.tape)) (items_later c (nodes' event) (items event) (item ∷ now.tape))

  granted_then : (item : Item) (event : Event) → IsOwn item → (k v : ℕ) → granted_on (stepped c (nodes' event) me now.tape item (made event)) v k ≡ last_grant (nodes' event v).met k
  granted_then item event own_is k = steps_told (λ t v. granted_on t v k) (next_granted k) (tells_granted k) (λ met. last_grant met k) (granted_each k) c now.tape now.node (q.granted k) (nodes' event) me item (met_in s (now.node me).met event) (made event) own_is
      (own_noted s (now.node me).met event) (step_met s (now.node me) event)

  -- a question whether a cell holds something leaves its grants
  dead_marks : (m : Message) (k : ℕ) → IsDead m.body → marks_for k (made (Take m)).notes ≡ []
  dead_marks m k dead = let parts = step_parts s (now.node me) (Take m) in
      ap (marks_for k) (parts.is ∙ ap (λ front. front ++ parts.rest) (told_dead s (now.node me).met m.from m.body dead)) ∙ unmarked k parts.rest (rest_unmarked parts.rest parts.each)

  dead_same : (item : Item) (m : Message) → IsOwn item → IsDead m.body → (k : ℕ) → granted_on (second item (Take m)) me k ≡ granted_on now.tape me k
  dead_same item m own_is dead k =
      sym (sends_told (λ t v. granted_on t v k) (next_granted k) (tells_granted k) (sent_count now.tape + 1) (made (Take m)).sends (second item (Take m)) me)
      ∙ granted_then item (Take m) own_is k me ∙ ap (λ (node : Node). last_grant node.met k) (at_me now.node me (made (Take m)).node)
      ∙ ap (λ met. last_grant met k) (step_met s (now.node me) (Take m) ∙ sym (onto_append (made (Take m)).notes (map Sends (made (Take m)).sends) (Takes m ∷ (now.node me).met)))
      ∙ last_onto k ((made (Take m)).notes ++ map Sends (made (Take m)).sends) (Takes m ∷ (now.node me).met)
      ∙ ap (λ ms. last_after ms (last_grant (now.node me).met k)) (marks_both k (made (Take m)).notes (map Sends (made (Take m)).sends) ∙ (λ i. dead_marks m k dead i ++ unmarked k (map Sends (made (Take m)).sends) (sends_unmarked (made (Take m)).sends) i))
      ∙ sym (q.granted k me)

  question_well : (t : List Item) (m : Message) → IsAsking m → SendsWell c m t
  question_well t m asks = record { frees = question_frees t m m.body asks; asks = question_asks c m.from m.body asks }

  origins_well : (item : Item) (event : Event) → Occurs now.tape s (now.node me).met item event → (ms : List Message) → Each (Origin s (now.node me).met event) ms → Each (λ m. SendsWell c m (second item event)) ms
  origins_well item (Tick clock) o ms each = each_on (Origin s (now.node me).met (Tick clock)) (λ m. SendsWell c m (second item (Tick clock))) one ms each
    where
      one : (m : Message) → Origin s (now.node me).met (Tick clock) m → SendsWell c m (second item (Tick clock))
      one m (inl asks) = question_well (second item (Tick clock)) m asks
      one m (inr a) = subst (λ x. SendsWell c x (second item (Tick clock))) (sym a.is) (record { frees = tt; asks = a.full })
  origins_well item (Take got) o ms each = each_on (Origin s (now.node me).met (Take got)) (λ m. SendsWell c m (second item (Take got))) one ms each
    where
      one : (m : Message) → Origin s (now.node me).met (Take got) m → SendsWell c m (second item (Take got))
      one m (inl asks) = question_well (second item (Take got)) m asks
      one m (inr r) = reply_frees c few now.tape now.node now.owed q me up (second item (Take got)) o.0 got.from got.to got.body m (dead_same item got (occurs_own now.tape s (now.node me).met item (Take got) o)) o.3
          (earlier_stood now.tape (second item (Take got)) (second_later item (Take got)) (Sent o.0 got) o.2) r.from r.body
  origins_well item (Begin request text) o ms each = each_on (Origin s (now.node me).met (Begin request text)) (λ m. SendsWell c m (second item (Begin request text))) one ms each
    where
      one : (m : Message) → Origin s (now.node me).met (Begin request text) m → SendsWell c m (second item (Begin request text))
      one m (inl asks) = question_well (second item (Begin request text)) m asks
      one m (inr none) = absurd none

  module _ (item : Item) (event : Event) (o : Occurs now.tape s (now.node me).met item event) where
    own_is : IsOwn item
    own_is = occurs_own now.tape s (now.node me).met item event o

    silent : Each SilentItem (items event)
    silent = notes_silent me (made event).notes

    second_freed : Are IsFreed (second item event)
    second_freed = are_items IsFreed (λ t. tt) c (nodes' event) (items event) (item ∷ now.tape) (free_follows IsFreed (λ t. tt) c (nodes' event) (items event) (item ∷ now.tape)
        (each_on SilentItem (IsFree IsFreed (λ t. tt) c (nodes' event)) (λ one is t. silent_freed t one is) (items event) silent)) (silent_freed now.tape item (own_silent item own_is), q.freed)

    second_asked : Are (IsAsked c) (second item event)
    second_asked = are_items (IsAsked c) (λ t. tt) c (nodes' event) (items event) (item ∷ now.tape) (free_follows (IsAsked c) (λ t. tt) c (nodes' event) (items event) (item ∷ now.tape)
        (each_on SilentItem (IsFree (IsAsked c) (λ t. tt) c (nodes' event)) (λ one is t. silent_asked c t one is) (items event) silent)) (silent_asked c now.tape item (own_silent item own_is), q.asked)

    second_given : Are (IsGiven c) (second item event)
    second_given = are_items (IsGiven c) (λ t. tt) c (nodes' event) (items event) (item ∷ now.tape) (free_follows (IsGiven c) (λ t. tt) c (nodes' event) (items event) (item ∷ now.tape)
        (free_notes (IsGiven c) (λ t. tt) c (nodes' event) me (made event).notes (each_on (GrantNote (Full c)) (λ note. Each (IsFree (IsGiven c) (λ t. tt) c (nodes' event)) (shown me note)) (λ note given. given_shown c me (nodes' event) note given) (made event).notes
        (step_given s (now.node me) now.tape item event q.asked o)))) (own_given c now.tape item own_is, q.grants)

    sent_given : (n : ℕ) (ms : List Message) (t : List Item) → Are (IsGiven c) t → Are (IsGiven c) (sent n ms t)
    sent_given n [] t a = a
    sent_given n (m ∷ ms) t a = sent_given (n + 1) ms (Sent n m ∷ t) (tt, a)

    well_on : (m other : Message) (t : List Item) (k : ℕ) → SendsWell c m t → SendsWell c m (Sent k other ∷ t)
    well_on m other t k r = record { frees = frees_on other k t m m.body r.frees; asks = r.asks }

    well : Each (λ m. SendsWell c m (second item event)) (made event).sends
    well = origins_well item event o (made event).sends (step_origins s (now.node me) event)

    steps_celling : Good nobody c now → Celling c (stepped c (nodes' event) me now.tape item (made event)) (nodes' event) now.owed
    steps_celling g = record {
      freed = are_sent IsFreed (SendsWell c) (λ m t k r. r.frees) well_on (sent_count now.tape + 1) (made event).sends (second item event) well second_freed;
      asked = are_sent (IsAsked c) (SendsWell c) (λ m t k r. r.asks) well_on (sent_count now.tape + 1) (made event).sends (second item event) well second_asked;
      grants = sent_given (sent_count now.tape + 1) (made event).sends (second item event) second_given;
      granted = granted_then item event own_is;
      cell = by_node (λ v node. CellAt c v node (now.owed v)) now.node me (made event).node (record {
        locks = λ k cell_is is still. step_match s (now.node me) event k is cell_is ((q.cell me).locks k cell_is is up);
        finds = λ k cell_is is. subst (λ owed. Matches (lock_after (marks_for k owed) (lock_of (reopenings ((made event).node).met) k)) (last_after (marks_for k owed) (last_grant ((made event).node).met k))) (sym (g.owed me up)) (reopen_match k ((made event).node).met is);
        owes = (q.cell me).owes;
        given = (q.cell me).given;
      }) (λ v apart. q.cell v);
    }

    -- it is cut
    abbrev node2 : Node
    node2 = down (met_in s (now.node me).met event) (now.node me)

    abbrev owing : Bool → List Met
    owing kept = cond kept (owes (made event) (replies_in c me (now.node me).met event)) []

    kept_marks : (k : ℕ) → In k lock_nodes → is_cell c me ≡ true → marks_for k (owing true) ≡ event_marks s (now.node me).met k event
    kept_marks k is cell_is = marks_both k (filter is_durable (made event).notes) (map Unsends (replies_in c me (now.node me).met event))
        ∙ (λ i. durable_marks k (made event).notes i ++ unmarked k (map Unsends (replies_in c me (now.node me).met event)) (unsent_unmarked (replies_in c me (now.node me).met event)) i)
        ∙ append-nil (marks_for k (made event).notes) ∙ step_marks s (now.node me) k is cell_is event

    finds_by : (kept : Bool) (k : ℕ) → is_cell c me ≡ true → In k lock_nodes → Matches (lock_after (marks_for k (owing kept)) (lock_of (reopenings node2.met) k)) (last_after (marks_for k (owing kept)) (last_grant node2.met k))
    finds_by true k cell_is is = coe 1 0 (i. Matches (lock_after (kept_marks k is cell_is i) (lock_of (own_reopens s (now.node me).met event i) k)) (last_after (kept_marks k is cell_is i) (own_last s (now.node me).met event k i)))
        (kept_match s (now.node me).met k cell_is ((q.cell me).locks k cell_is is up) event (lock_of (reopenings (now.node me).met) k) (reopen_match k (now.node me).met is))
    finds_by false k cell_is is = reopen_match k node2.met is

    owes_by : (kept : Bool) → Each IsOwed (owing kept)
    owes_by true = each_both IsOwed (filter is_durable (made event).notes) (map Unsends (replies_in c me (now.node me).met event)) (filtered IsOwed (made event).notes durable_owed) (unsent_owed (replies_in c me (now.node me).met event))
    owes_by false = tt

    given_by : (kept : Bool) → Each (GrantNote (Full c)) (owing kept)
    given_by true = each_both (GrantNote (Full c)) (filter is_durable (made event).notes) (map Unsends (replies_in c me (now.node me).met event))
        (filtered_each (GrantNote (Full c)) (made event).notes (step_given s (now.node me) now.tape item event q.asked o)) (unsent_given c (replies_in c me (now.node me).met event))
    given_by false = tt

    cuts_celling : (kept : Bool) → Celling c (Crash (number me) ∷ item ∷ now.tape) (set_at now.node me node2) (set_at now.owed me (owing kept))
    cuts_celling kept = record {
      freed = (tt, (silent_freed now.tape item (own_silent item own_is), q.freed));
      asked = (tt, (silent_asked c now.tape item (own_silent item own_is), q.asked));
      grants = (tt, (own_given c now.tape item own_is, q.grants));
      granted = λ k. cuts_told (λ t v. granted_on t v k) (next_granted k) (tells_granted k) (λ met. last_grant met k) (granted_each k) c now.tape now.node (q.granted k) me item (met_in s (now.node me).met event) node2 own_is (own_noted s (now.node me).met event) refl;
      cell = by_both (CellAt c) now.node now.owed me node2 (owing kept) (record { locks = λ k cell_is is still. cc; finds = finds_by kept; owes = owes_by kept; given = given_by kept }) (λ v apart. q.cell v);
    }

module _ (c : Cluster) (h : Meanings) (now : Standing) (me count : ℕ) (q : Celling c now.tape now.node now.owed) where
  abbrev begun : Setting
  begun = setting c h me

  abbrev applied_notes : List Met
  applied_notes = start_notes begun (onto (now.owed me) (Starts count ∷ (now.node me).met))

  abbrev begun_items : List Met
  begun_items = start_items begun count (now.owed me) (now.node me).met

  abbrev fresh : Node
  fresh = start begun count (now.owed me) (now.node me).met

  abbrev those : ℕ → Node
  those = set_at now.node me fresh

  applied_unmarked : Each IsUnmarked applied_notes
  applied_unmarked = rest_unmarked applied_notes (start_rest begun (onto (now.owed me) (Starts count ∷ (now.node me).met)))

  opened_marks : (k : ℕ) → marks_for k (now.owed me ++ applied_notes) ≡ marks_for k (now.owed me)
  opened_marks k = marks_both k (now.owed me) applied_notes ∙ ap (λ ms. marks_for k (now.owed me) ++ ms) (unmarked k applied_notes applied_unmarked) ∙ append-nil (marks_for k (now.owed me))

  opened_locks : (k : ℕ) → is_cell c me ≡ true → In k lock_nodes → Matches (lock_of (cell_calls c me fresh.met) k) (last_grant fresh.met k)
  opened_locks k cell_is is = coe 1 0 (i. Matches (lock_is i) (last_is i)) ((q.cell me).finds k cell_is is)
    where
      lock_is : lock_of (cell_calls c me fresh.met) k ≡ lock_after (marks_for k (now.owed me)) (lock_of (reopenings (now.node me).met) k)
      lock_is = opening_onto c me k (now.owed me ++ applied_notes) (Starts count ∷ (now.node me).met) refl (each_both IsOwed (now.owed me) applied_notes (q.cell me).owes (start_owed begun (onto (now.owed me) (Starts count ∷ (now.node me).met))))
          ∙ ap (λ ms. lock_after ms (lock_of (reopenings (now.node me).met) k)) (opened_marks k)

      last_is : last_grant fresh.met k ≡ last_after (marks_for k (now.owed me)) (last_grant (now.node me).met k)
      last_is = last_onto k (now.owed me ++ applied_notes) (Starts count ∷ (now.node me).met) ∙ ap (λ ms. last_after ms (last_grant (now.node me).met k)) (opened_marks k)

  starts_celling : Celling c (with_items c those now.tape (flat_map (shown me) begun_items)) those (set_at now.owed me [])
  starts_celling = record {
    freed = are_items IsFreed (λ t. tt) c those (flat_map (shown me) begun_items) now.tape (free_follows IsFreed (λ t. tt) c those (flat_map (shown me) begun_items) now.tape
        (each_on SilentItem (IsFree IsFreed (λ t. tt) c those) (λ one is t. silent_freed t one is) (flat_map (shown me) begun_items) (notes_silent me begun_items))) q.freed;
    asked = are_items (IsAsked c) (λ t. tt) c those (flat_map (shown me) begun_items) now.tape (free_follows (IsAsked c) (λ t. tt) c those (flat_map (shown me) begun_items) now.tape
        (each_on SilentItem (IsFree (IsAsked c) (λ t. tt) c those) (λ one is t. silent_asked c t one is) (flat_map (shown me) begun_items) (notes_silent me begun_items))) q.asked;
    grants = are_items (IsGiven c) (λ t. tt) c those (flat_map (shown me) begun_items) now.tape (free_follows (IsGiven c) (λ t. tt) c those (flat_map (shown me) begun_items) now.tape
        (free_notes (IsGiven c) (λ t. tt) c those me begun_items (each_on (GrantNote (Full c)) (λ note. Each (IsFree (IsGiven c) (λ t. tt) c those) (shown me note)) (λ note given. given_shown c me those note given) begun_items
        (tt, each_both (GrantNote (Full c)) (now.owed me) applied_notes (q.cell me).given (rest_given (Full c) applied_notes (start_rest begun (onto (now.owed me) (Starts count ∷ (now.node me).met)))))))) q.grants;
    granted = λ k. starts_told (λ t v. granted_on t v k) (next_granted k) (tells_granted k) (λ met. last_grant met k) (granted_each k) c now.tape now.node (q.granted k) those me fresh begun_items refl;
    cell = by_both (CellAt c) now.node now.owed me fresh [] (record { locks = λ k cell_is is still. opened_locks k cell_is is; finds = λ k cell_is is. reopen_match k fresh.met is; owes = tt; given = tt }) (λ v apart. q.cell v);
  }

falls_celling : (c : Cluster) (now : Standing) (me : ℕ) → Celling c now.tape now.node now.owed → Celling c (Crash (number me) ∷ now.tape) (set_at now.node me (crashed (now.node me))) now.owed
falls_celling c now me q = record {
  freed = (tt, q.freed);
  asked = (tt, q.asked);
  grants = (tt, q.grants);
  granted = λ k. falls_told (λ t v. granted_on t v k) (next_granted k) (tells_granted k) (λ met. last_grant met k) (granted_each k) c now.tape now.node (q.granted k) me (crashed (now.node me)) refl;
  cell = by_node (λ v node. CellAt c v node (now.owed v)) now.node me (crashed (now.node me))
      (record { locks = λ k cell_is is still. cc; finds = (q.cell me).finds; owes = (q.cell me).owes; given = (q.cell me).given }) (λ v apart. q.cell v);
}

marks_celling : (c : Cluster) (tape : List Item) (nodes : ℕ → Node) (owed : ℕ → List Met) (item : Item) → IsMark item → Celling c tape nodes owed → Celling c (item ∷ tape) nodes owed
marks_celling c tape nodes owed item is q = record {
  freed = (silent_freed tape item (mark_silent item is), q.freed);
  asked = (silent_asked c tape item (mark_silent item is), q.asked);
  grants = (mark_given item is, q.grants);
  granted = λ k. marks_told (λ t v. granted_on t v k) (next_granted k) (tells_granted k) (λ met. last_grant met k) (granted_each k) c tape nodes (q.granted k) item is;
  cell = q.cell;
}
  where
    mark_silent : (item : Item) → IsMark item → SilentItem item
    mark_silent (Sent key m) h = absurd h
    mark_silent _ h = tt

    mark_given : (item : Item) → IsMark item → IsGiven c tape item
    mark_given (Grant cell node epoch) h = absurd h
    mark_given _ h = tt

pub celling_holds : (c : Cluster) (P : Standing → Type 0) → length c.nodes ≤ 9 → Holds c P (Celling c)
celling_holds c P few = record {
  steps = λ h now me item event g p up o plain q. steps_celling c few h now me up q item event o g;
  cuts = λ h now me item event kept g p up o q. cuts_celling c few h now me up q item event o kept;
  starts = λ h now me count g p less q. starts_celling c h now me count q;
  falls = λ now me g p q. falls_celling c now me q;
  marks = λ now item is g p q. marks_celling c now.tape now.node now.owed item is q;
}

pub nothing_celling : (c : Cluster) → Celling c [] (λ me. nothing_yet.node me) (λ me. [])
nothing_celling c = record {
  freed = tt;
  asked = tt;
  grants = tt;
  granted = λ k v. refl;
  cell = λ v. record { locks = λ k cell_is is up. cc; finds = λ k cell_is is. reopen_match k [] is; owes = tt; given = tt };
}

pub run_freed : (c : Cluster) (first : Meanings) (events : List Happening) (tape : List Item) → length c.nodes ≤ 9 → IsRun c first events tape → Are IsFreed tape
run_freed c first events tape few run = subst (Are IsFreed) (sym run.tape_is) (run_holds c Anything (any_keeps c) (Celling c) (celling_holds c Anything few) first events tape run tt (nothing_celling c)).freed
