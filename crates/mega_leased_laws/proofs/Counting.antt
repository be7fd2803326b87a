-- Which cells a node counts: as a tape tells it, and as a coordinator keeps it.
use Rattle.std.proofs.Common.{◌≡◌, ◌⊎◌, inl, inr, ℕ, zero, suc, ◌+◌, ◌-◌, ◌*◌, ◌/◌, max, ◌==◌, ◌&&◌, ◌||◌, ◌≤◌, ◌<◌, nat_le, nat_lt, not, Bool, true, false, cond, List, [], ◌∷◌, ◌++◌, filter, flat_map, length, map, set, get_or, Option, Some, None, is_some, refl, sym, ap, ◌∙◌, subst, arith}
use Rattle.std.specs.Prelude.{count_by, option_map, unwrap_or}
use Rattle.std.specs.List.{range_with_len}
use Rattle.std.specs.Option.{option_map_or}
use Rattle.std.proofs.lemmas.Bool.Decides.{nat_tests}
use Rattle.std.proofs.lemmas.List.Sums.{sum_by-cons}
use Rattle.std.proofs.lemmas.Bool.{and_from}
use Rattle.mega_base.specs.declared.names.Epoch.{Epoch}
use Rattle.mega_cluster.specs.declared.cluster.Cluster.{Cluster}
use Rattle.mega_coordinator.specs.declared.answers.Counted.{Counted}
use Rattle.mega_coordinator.specs.declared.answers.Counted.TheVariants.{No, Yes, Serving as ServingAnswer}
use Rattle.mega_coordinator.specs.declared.lease.Lease.{Lease}
use Rattle.mega_coordinator.specs.Lease.{after_grant, counted_by, counts, epoch_of, granted_answer, is_due, is_majority, is_present, left, next_lease, none_counted, past_ends, tick_ends, until_with}
use Rattle.mega_coordinator.specs.History.{Call, Ticks as TickCall, Grants as GrantCall, Passes, Invalidates as InvalidCall, Validates as ValidCall, epoch_after, lease_of}
use Rattle.mega_coordinator.specs.Laws.{endings}
use Rattle.mega_coordinator.proofs.Epochs.{serves_alone}
use Rattle.mega_locks.specs.declared.asked.Asked.{Asked}
use Rattle.mega_locks.specs.declared.asked.Asked.TheVariants.{Granted, Renewed, GreaterHeld, Over}
use Rattle.mega_locks.specs.History.{lapse_for, nodes as lock_nodes}
use Rattle.mega_locks.proofs.Marks.{same_is}
use Rattle.mega_wal.specs.History.{is_same_epoch}
use Rattle.mega_wire.specs.declared.message.Message.{Message}
use Rattle.mega_wire.specs.declared.message.Body.{Body}
use Rattle.mega_wire.specs.declared.message.Body.TheVariants.{Acquire, Granted as GrantedBody, Invalidate, Past}
use Rattle.mega_lease_laws.specs.of_run_laws.of_tape_laws.of_promises.of_transcript.declared.item.Item.{Item}
use Rattle.mega_lease_laws.specs.of_run_laws.of_tape_laws.of_promises.of_transcript.declared.item.Item.TheVariants.{Answer, Apply, Begin as BeginItem, Counts as CountsItem, Crash, Cut as CutItem, Decide, Dropped, Forgets as ForgetsItem, Grant, Invalid, Lapse, Lost, Serving, Start, Taken, Tick as TickItem, Unsent, Valid}
use Rattle.mega_lease_laws.specs.of_run_laws.of_tape_laws.of_promises.Items.{number, shown}
use Rattle.mega_lease_laws.specs.of_run_laws.of_tape_laws.of_promises.Runs.{met_in, with_item, with_items}
use Rattle.mega_lease_laws.specs.of_run_laws.of_tape_laws.of_promises.of_rules.of_read.of_propose.Members.{has}
use Rattle.mega_lease_laws.specs.of_run_laws.of_tape_laws.of_promises.of_rules.Met.{Met, Starts, Crashes, Ticks, Begins, Takes, Sends, Unsends, Grants, Lapses, Counts, Forgets, Serves, Loses, Validates, Invalidates, Decides, Applies, Answers}
use Rattle.mega_lease_laws.specs.of_run_laws.of_tape_laws.of_promises.of_rules.Clock.{clock_of, start_of}
use Rattle.mega_lease_laws.specs.of_run_laws.of_tape_laws.of_promises.of_rules.Coordinators.{coordinator_calls, counts_notes, forget_notes, grant_notes, is_cell_in, lost_note, serves_at, tick_notes, tick_told, told_by, validated}
use Rattle.mega_lease_laws.specs.of_run_laws.of_tape_laws.of_promises.of_rules.Locks.{asked_for, cell_calls, grant_note, lapse_note, lapses_at}
use Rattle.mega_lease_laws.specs.of_run_laws.of_tape_laws.of_promises.of_rules.Members.{cells, is_full, keep_of}
use Rattle.mega_lease_laws.specs.of_run_laws.of_tape_laws.of_promises.of_rules.Operations.{Node, Setting}
use Rattle.mega_lease_laws.specs.of_run_laws.of_tape_laws.of_promises.of_rules.Steps.{Begin, Event, Take, Tick, lapse_notes, lease_notes, onto, step, told_notes}
use Rattle.mega_lease_laws.specs.of_run_laws.of_tape_laws.Places.{count}
use Rattle.mega_lease_laws.specs.of_run_laws.of_tape_laws.Settled.{IsCellMajority}
use Rattle.mega_lease_laws.proofs.of_run_laws.of_tape_laws.Ballots.{number_is, number_self}
use Rattle.mega_lease_laws.specs.of_run_laws.Justified.{Each}
use Rattle.mega_lease_laws.proofs.of_run_laws.Events.{each_append as each_both, onto_append}
use Rattle.mega_valid_laws.specs.Leases.{counted_on}
use Rattle.mega_valid_laws.proofs.Folds.{IsOwn, IsOwnNote, TapeFold, with_told, same_if}
use Rattle.mega_leased_laws.proofs.Tails.{fronts}
use Rattle.mega_leased_laws.proofs.Notes.{IsRest, step_parts}
use Rattle.mega_leased_laws.proofs.TapeIsMet.{step_met}
use Rattle.mega_leased_laws.proofs.EpochReached.{EpochReached, asked_present}
use Rattle.mega_valid_laws.proofs.NoCalls.{Uncalled, uncalled_all}
use Rattle.mega_leased_laws.proofs.Beating.{fronts_no_call}
use Rattle.std.proofs.lemmas.List.{length-map}

-- ---- what a node met

abbrev pub next_counted : ℕ → Epoch → Met → Bool → Bool
next_counted cell epoch (Counts other e) x = cond (other == cell && is_same_epoch e epoch) true x
next_counted cell epoch (Forgets other e) x = cond (other == cell && is_same_epoch e epoch) false x
next_counted cell epoch _ x = x

abbrev pub counted_met : List Met → ℕ → Epoch → Bool
counted_met [] cell epoch = false
counted_met (one ∷ met) cell epoch = next_counted cell epoch one (counted_met met cell epoch)

cond_as : {X : Type 0} (t u w : Bool) (one rest : X) → cond ((t && u) && w) one rest ≡ cond t (cond (u && w) one rest) rest
cond_as true u w one rest = refl
cond_as false u w one rest = refl

module _ (cell : ℕ) (epoch : Epoch) where
  counted_told : (v : ℕ) (c : Cluster) (nodes : ℕ → Node) (tape : List Item) (item : Item) → counted_on (with_item c nodes tape item) v cell epoch ≡ counted_on (item ∷ tape) v cell epoch
  counted_told v c nodes tape item = with_told (λ t. counted_on t v cell epoch) (λ t. refl) c nodes tape item

  counted_one : (c : Cluster) (nodes : ℕ → Node) (me v : ℕ) (note : Met) (tape : List Item)
      → counted_on (with_items c nodes tape (shown me note)) v cell epoch ≡ cond (me == v) (next_counted cell epoch note (counted_on tape v cell epoch)) (counted_on tape v cell epoch)
  counted_one c nodes me v (Starts start) tape = counted_told v c nodes tape (Start (number me) start) ∙ same_if (me == v) (counted_on tape v cell epoch)
  counted_one c nodes me v Crashes tape = counted_told v c nodes tape (Crash (number me)) ∙ same_if (me == v) (counted_on tape v cell epoch)
  counted_one c nodes me v (Ticks now) tape = counted_told v c nodes tape (TickItem (number me) now) ∙ same_if (me == v) (counted_on tape v cell epoch)
  counted_one c nodes me v (Begins op text) tape = counted_told v c nodes tape (BeginItem op text) ∙ same_if (me == v) (counted_on tape v cell epoch)
  counted_one c nodes me v (Takes message) tape = same_if (me == v) (counted_on tape v cell epoch)
  counted_one c nodes me v (Sends message) tape = same_if (me == v) (counted_on tape v cell epoch)
  counted_one c nodes me v (Unsends message) tape = counted_told v c nodes tape (Unsent (number me) message) ∙ same_if (me == v) (counted_on tape v cell epoch)
  counted_one c nodes me v (Grants node e) tape = counted_told v c nodes tape (Grant me (number node) e) ∙ same_if (me == v) (counted_on tape v cell epoch)
  counted_one c nodes me v (Lapses node e) tape = counted_told v c nodes tape (Lapse me (number node) e) ∙ same_if (me == v) (counted_on tape v cell epoch)
  counted_one c nodes me v (Counts other e) tape = counted_told v c nodes tape (CountsItem (number me) other e) ∙ cond_as (me == v) (other == cell) (is_same_epoch e epoch) true (counted_on tape v cell epoch)
  counted_one c nodes me v (Forgets other e) tape = counted_told v c nodes tape (ForgetsItem (number me) other e) ∙ cond_as (me == v) (other == cell) (is_same_epoch e epoch) false (counted_on tape v cell epoch)
  counted_one c nodes me v (Serves e) tape = counted_told v c nodes tape (Serving (number me) e) ∙ same_if (me == v) (counted_on tape v cell epoch)
  counted_one c nodes me v (Loses e) tape = counted_told v c nodes tape (Lost (number me) e) ∙ same_if (me == v) (counted_on tape v cell epoch)
  counted_one c nodes me v (Validates g position) tape = counted_told v c nodes tape (Valid (number me) g (record { 0 = position })) ∙ same_if (me == v) (counted_on tape v cell epoch)
  counted_one c nodes me v (Invalidates g position) tape = counted_told v c nodes tape (Invalid (number me) g (record { 0 = position })) ∙ same_if (me == v) (counted_on tape v cell epoch)
  counted_one c nodes me v (Decides g position entry) tape = counted_told v c nodes tape (Decide (number me) g (record { 0 = position }) entry) ∙ same_if (me == v) (counted_on tape v cell epoch)
  counted_one c nodes me v (Applies g position) tape = counted_told v c nodes tape (Apply (number me) g (record { 0 = position })) ∙ same_if (me == v) (counted_on tape v cell epoch)
  counted_one c nodes me v (Answers op answer) tape = counted_told v c nodes tape (Answer op answer) ∙ same_if (me == v) (counted_on tape v cell epoch)

  counted_own : (item : Item) → IsOwn item → (tape : List Item) (v : ℕ) → counted_on (item ∷ tape) v cell epoch ≡ counted_on tape v cell epoch
  counted_own (Taken j) is tape v = refl
  counted_own (Dropped j) is tape v = refl
  counted_own CutItem is tape v = refl
  counted_own (TickItem node now) is tape v = refl
  counted_own (BeginItem op text) is tape v = refl
  counted_own _ is tape v = absurd is

  counted_note : (one : Met) → IsOwnNote one → (x : Bool) → next_counted cell epoch one x ≡ x
  counted_note (Takes message) is x = refl
  counted_note (Ticks now) is x = refl
  counted_note (Begins op text) is x = refl
  counted_note _ is x = absurd is

  pub tells_counted : TapeFold Bool (λ tape v. counted_on tape v cell epoch) (next_counted cell epoch)
  tells_counted = record { unsafe = λ tape v. refl; sends = λ k m tape v. refl; one = counted_one; sent_met = λ m x. refl; own = counted_own; own_note = counted_note }

-- ---- slots

-- five slots, of which those of the cluster's cells alone are used
pub record Slots (cells : ℕ) (until : List (Option ℕ)) : Type 0 where
  pub five : length until ≡ 5
  pub within : (i : ℕ) → is_some (get_or until i None) ≡ true → i < cells

pub none_slot : (i : ℕ) → is_some (get_or none_counted i None) ≡ false
none_slot zero = refl
none_slot (suc zero) = refl
none_slot (suc (suc zero)) = refl
none_slot (suc (suc (suc zero))) = refl
none_slot (suc (suc (suc (suc zero)))) = refl
none_slot (suc (suc (suc (suc (suc i))))) = refl

none_slots : (cells : ℕ) → Slots cells none_counted
none_slots cells = record { five = refl; within = λ i h. absurd (let clashing = sym (none_slot i) ∙ h in cc) }

length_set : {X : Type 0} (xs : List X) (k : ℕ) (x : X) → length (set xs k x) ≡ length xs
length_set [] k x = refl
length_set (y ∷ xs) zero x = refl
length_set (y ∷ xs) (suc k) x = ap suc (length_set xs k x)

set_slot : (xs : List (Option ℕ)) (k i v : ℕ) → k < length xs → is_some (get_or (set xs k (Some v)) i None) ≡ cond (k == i) true (is_some (get_or xs i None))
set_slot [] k i v h = absurd (omega (arith, h))
set_slot (x ∷ xs) zero zero v h = refl
set_slot (x ∷ xs) zero (suc i) v h = ap (λ t. cond t true (is_some (get_or xs i None))) (sym (apart i))
  where
    apart : (j : ℕ) → (0 == suc j) ≡ false
    apart j = grind (arith, nat_tests)
set_slot (x ∷ xs) (suc k) zero v h = ap (λ t. cond t true (is_some x)) (sym (apart k))
  where
    apart : (j : ℕ) → (suc j == 0) ≡ false
    apart j = grind (arith, nat_tests)
set_slot (x ∷ xs) (suc k) (suc i) v h = set_slot xs k i v (omega (arith, h)) ∙ ap (λ t. cond t true (is_some (get_or xs i None))) (same k i)
  where
    differ : (a b : ℕ) → (a == b) ≡ false → a ≡ b → ⊥
    differ a b p q = grind (arith, nat_tests)

    same : (a b : ℕ) → (a == b) ≡ (suc a == suc b)
    same a b = by (a == b) refl (suc a == suc b) refl
      where
        by : (t : Bool) → (a == b) ≡ t → (u : Bool) → (suc a == suc b) ≡ u → t ≡ u
        by true p true q = refl
        by false p false q = refl
        by true p false q = absurd (differ (suc a) (suc b) q (let is = number_is a b p in omega (arith, is)))
        by false p true q = absurd (differ a b p (let is = number_is (suc a) (suc b) q in omega (arith, is)))

left_one : (now : ℕ) (o : Option ℕ) → is_some (left now o) ≡ (is_some o && not (is_due now o))
left_one now None = refl
left_one now (Some until) = by (is_due now (Some until))
  where
    by : (t : Bool) → is_some (cond t None (Some until)) ≡ (true && not t)
    by true = refl
    by false = refl

left_slot : (now : ℕ) (xs : List (Option ℕ)) (i : ℕ) → is_some (get_or (map (left now) xs) i None) ≡ (is_some (get_or xs i None) && not (is_due now (get_or xs i None)))
left_slot now [] i = refl
left_slot now (x ∷ xs) zero = left_one now x
left_slot now (x ∷ xs) (suc i) = left_slot now xs i

due_slot : (now : ℕ) (xs : List (Option ℕ)) (i : ℕ) → get_or (map (is_due now) xs) i false ≡ is_due now (get_or xs i None)
due_slot now [] i = refl
due_slot now (x ∷ xs) zero = refl
due_slot now (x ∷ xs) (suc i) = due_slot now xs i

first_true : (a b : Bool) → (a && b) ≡ true → a ≡ true
first_true true b h = refl
first_true false b h = h

second_true : (a b : Bool) → (a && b) ≡ true → b ≡ true
second_true true b h = h
second_true false b h = cc

slots_if : (cells : ℕ) (t : Bool) (one other : Lease) → Slots cells one.until → Slots cells other.until → Slots cells (cond t one other).until
slots_if cells true one other h k = h
slots_if cells false one other h k = k

less_is : (a b : ℕ) → nat_lt a b ≡ true → a < b
less_is a b h = grind (arith, nat_tests)

most_is : (a b : ℕ) → nat_le a b ≡ true → a ≤ b
most_is a b h = grind (arith, nat_tests)

-- a cell that is counted is one
pub record IsCounted (start cells : ℕ) (lease : Lease) (cell : ℕ) (e : Epoch) : Type 0 where
  pub present : epoch_of start lease ≡ Some e
  pub above : 0 < cell
  pub most : cell ≤ cells

counts_is : (start cells : ℕ) (lease : Lease) (cell : ℕ) (e : Epoch) (until now : ℕ) → counts start cells lease cell e until now ≡ true → IsCounted start cells lease cell e
counts_is start cells lease cell e until now h = record {
  present = present_is lease.count (first_true (is_present start lease e) (nat_lt now until) early);
  above = less_is 0 cell (second_true (is_present start lease e && nat_lt now until) (nat_lt 0 cell) middle);
  most = most_is cell cells (second_true ((is_present start lease e && nat_lt now until) && nat_lt 0 cell) (nat_le cell cells) late);
}
  where
    late : (((is_present start lease e && nat_lt now until) && nat_lt 0 cell) && nat_le cell cells) ≡ true
    late = first_true (((is_present start lease e && nat_lt now until) && nat_lt 0 cell) && nat_le cell cells) (not lease.serves || is_some (counted_by lease cell)) h

    middle : ((is_present start lease e && nat_lt now until) && nat_lt 0 cell) ≡ true
    middle = first_true ((is_present start lease e && nat_lt now until) && nat_lt 0 cell) (nat_le cell cells) late

    early : (is_present start lease e && nat_lt now until) ≡ true
    early = first_true (is_present start lease e && nat_lt now until) (nat_lt 0 cell) middle

    present_is : (o : Option ℕ) → option_map_or (λ count. e.start == start && e.count == count) o false ≡ true → option_map (λ count. record { start = start; count = count }) o ≡ Some e
    present_is None k = cc
    present_is (Some count) k = λ i. Some (record { start = sym (number_is e.start start (first_true (e.start == start) (e.count == count) k)) i; count = sym (number_is e.count count (second_true (e.start == start) (e.count == count) k)) i })

set_slots : (cells : ℕ) (until : List (Option ℕ)) (cell v : ℕ) → cells ≤ 5 → 0 < cell → cell ≤ cells → Slots cells until → Slots cells (set until (cell - 1) (Some v))
set_slots cells until cell v few above most s = record {
  five = length_set until (cell - 1) (Some v) ∙ s.five;
  within = λ i h. by i (cell - 1 == i) refl (sym (set_slot until (cell - 1) i v (let five = s.five in omega (arith, few, above, most, five))) ∙ h);
}
  where
    by : (i : ℕ) (t : Bool) → (cell - 1 == i) ≡ t → cond t true (is_some (get_or until i None)) ≡ true → i < cells
    by i true at h = let same = number_is (cell - 1) i at in omega (arith, above, most, same)
    by i false at h = s.within i h

left_slots : (cells now : ℕ) (until : List (Option ℕ)) → Slots cells until → Slots cells (map (left now) until)
left_slots cells now until s = record {
  five = length-map until (left now) ∙ s.five;
  within = λ i h. s.within i (first_true (is_some (get_or until i None)) (not (is_due now (get_or until i None))) (sym (left_slot now until i) ∙ h));
}

pub slots_of : (start cells : ℕ) (calls : List Call) → cells ≤ 5 → Slots cells (lease_of start cells calls).until
slots_of start cells [] few = none_slots cells
slots_of start cells (TickCall now ∷ calls) few = slots_if cells (tick_ends cells (lease_of start cells calls) now) (next_lease (lease_of start cells calls)) _ (none_slots cells)
    (left_slots cells now (lease_of start cells calls).until (slots_of start cells calls few))
slots_of start cells (Passes epoch ∷ calls) few = slots_if cells (past_ends start (lease_of start cells calls) epoch) (next_lease (lease_of start cells calls)) (lease_of start cells calls) (none_slots cells) (slots_of start cells calls few)
slots_of start cells (InvalidCall group n ∷ calls) few = slots_of start cells calls few
slots_of start cells (ValidCall group n begun ∷ calls) few = slots_of start cells calls few
slots_of start cells (GrantCall cell epoch until now ∷ calls) few = by (counts start cells (lease_of start cells calls) cell epoch until now) refl (slots_of start cells calls few)
  where
    lease : Lease
    lease = lease_of start cells calls

    by : (t : Bool) → counts start cells lease cell epoch until now ≡ t → Slots cells lease.until → Slots cells (cond t (after_grant cells lease cell until) lease).until
    by true h s = let is = counts_is start cells lease cell epoch until now h in set_slots cells lease.until cell (max until (unwrap_or (counted_by lease cell) 0)) few is.above is.most s
    by false h s = s

-- ---- what a coordinator counts

abbrev pub lease_at : Cluster → List Met → Lease
lease_at c met = lease_of (start_of met) c.cells (coordinator_calls c met)

abbrev pub present_at : Cluster → List Met → Option Epoch
present_at c met = epoch_after (start_of met) c.cells (coordinator_calls c met)

-- what is noted of the cells of the present epoch is what the coordinator counts
pub record Counting (c : Cluster) (met : List Met) : Type 0 where
  pub none : (e : Epoch) → counted_met met 0 e ≡ false
  pub reach : (cell : ℕ) (e : Epoch) → counted_met met cell e ≡ true → EpochReached c met e

abbrev pub CountsAt : Cluster → List Met → Type 0
CountsAt c met = (e : Epoch) → present_at c met ≡ Some e → (i : ℕ) → counted_met met (suc i) e ≡ is_some (get_or (lease_at c met).until i None)

abbrev after_counted : ℕ → Epoch → List Met → Bool → Bool
after_counted cell epoch [] x = x
after_counted cell epoch (one ∷ more) x = after_counted cell epoch more (next_counted cell epoch one x)

onto_counted : (cell : ℕ) (epoch : Epoch) (notes met : List Met) → counted_met (onto notes met) cell epoch ≡ after_counted cell epoch notes (counted_met met cell epoch)
onto_counted cell epoch [] met = refl
onto_counted cell epoch (one ∷ notes) met = onto_counted cell epoch notes (one ∷ met)

after_both : (cell : ℕ) (epoch : Epoch) (xs ys : List Met) (x : Bool) → after_counted cell epoch (xs ++ ys) x ≡ after_counted cell epoch ys (after_counted cell epoch xs x)
after_both cell epoch [] ys x = refl
after_both cell epoch (one ∷ xs) ys x = after_both cell epoch xs ys (next_counted cell epoch one x)

-- what is said of each cell that is counted
abbrev pub CountNote : (ℕ → Epoch → Type 0) → Met → Type 0
CountNote G (Counts cell epoch) = G cell epoch
CountNote G _ = Unit {0}

-- who is counted was counted, or is counted now
counted_next : (G : ℕ → Epoch → Type 0) (one : Met) (met : List Met) (cell : ℕ) (epoch : Epoch) → CountNote G one → next_counted cell epoch one (counted_met met cell epoch) ≡ true → G cell epoch ⊎ (counted_met met cell epoch ≡ true)
counted_next G (Counts other e) met cell epoch h = by (other == cell && is_same_epoch e epoch) refl
  where
    by : (t : Bool) → (other == cell && is_same_epoch e epoch) ≡ t → cond t true (counted_met met cell epoch) ≡ true → G cell epoch ⊎ (counted_met met cell epoch ≡ true)
    by true at k = inl (coe 0 1 (i. G (number_is other cell (first_true (other == cell) (is_same_epoch e epoch) at) i) (same_is e epoch (second_true (other == cell) (is_same_epoch e epoch) at) i)) h)
    by false at k = inr k
counted_next G (Forgets other e) met cell epoch h = by (other == cell && is_same_epoch e epoch)
  where
    by : (t : Bool) → cond t false (counted_met met cell epoch) ≡ true → G cell epoch ⊎ (counted_met met cell epoch ≡ true)
    by true k = cc
    by false k = inr k
counted_next G _ met cell epoch h = λ k. inr k

pub counted_then : (G : ℕ → Epoch → Type 0) (notes met : List Met) (cell : ℕ) (epoch : Epoch) → Each (CountNote G) notes → counted_met (onto notes met) cell epoch ≡ true → G cell epoch ⊎ (counted_met met cell epoch ≡ true)
counted_then G [] met cell epoch h k = inr k
counted_then G (one ∷ notes) met cell epoch h k = elim (counted_then G notes (one ∷ met) cell epoch h.1 k) [ inl now ↦ inl now | inr was ↦ counted_next G one met cell epoch h.0 was ]

-- ---- the rest of a step

pub record SameLease (c : Cluster) (one two : List Met) : Type 0 where
  pub start : start_of one ≡ start_of two
  pub lease : (lease_at c one) ≡ (lease_at c two)
  pub counted : (cell : ℕ) (epoch : Epoch) → counted_met one cell epoch ≡ counted_met two cell epoch

same_then : (c : Cluster) (a b d : List Met) → SameLease c a b → SameLease c b d → SameLease c a d
same_then c a b d x y = record { start = x.start ∙ y.start; lease = x.lease ∙ y.lease; counted = λ cell epoch. x.counted cell epoch ∙ y.counted cell epoch }

rest_one : (c : Cluster) (one : Met) (met : List Met) → IsRest one → SameLease c (one ∷ met) met
rest_one c (Decides group position entry) met h = record { start = refl; lease = refl; counted = λ cell epoch. refl }
rest_one c (Applies group position) met h = record { start = refl; lease = refl; counted = λ cell epoch. refl }
rest_one c (Answers op answer) met h = record { start = refl; lease = refl; counted = λ cell epoch. refl }
rest_one c (Validates group position) met h = record { start = refl; lease = by (serves_at c met); counted = λ cell epoch. refl }
  where
    by : (o : Option Epoch) → lease_of (start_of met) c.cells (validated group position o ++ coordinator_calls c met) ≡ lease_at c met
    by None = refl
    by (Some epoch) = refl
rest_one c _ met h = absurd h

rest_same : (c : Cluster) (notes met : List Met) → Each IsRest notes → SameLease c (onto notes met) met
rest_same c [] met h = record { start = refl; lease = refl; counted = λ cell epoch. refl }
rest_same c (one ∷ notes) met h = same_then c (onto notes (one ∷ met)) (one ∷ met) met (rest_same c notes (one ∷ met) h.1) (rest_one c one met h.0)

sends_same : (c : Cluster) (ms : List Message) (met : List Met) → SameLease c (onto (map Sends ms) met) met
sends_same c [] met = record { start = refl; lease = refl; counted = λ cell epoch. refl }
sends_same c (m ∷ ms) met = same_then c (onto (map Sends ms) (Sends m ∷ met)) (Sends m ∷ met) met (sends_same c ms (Sends m ∷ met)) (record { start = refl; lease = refl; counted = λ cell epoch. refl })

abbrev pub behind_fronts : Setting → Node → Event → List Met
behind_fronts s node event = onto (fronts s node event) (met_in s node.met event ∷ node.met)

pub step_same : (s : Setting) (node : Node) (event : Event) → SameLease s.cluster ((step s node event).node).met (behind_fronts s node event)
step_same s node event = let parts = step_parts s node event in
    subst (λ met. SameLease s.cluster met (behind_fronts s node event)) (sym (step_met s node event))
    (same_then s.cluster (onto (map Sends (step s node event).sends) (onto (step s node event).notes (met_in s node.met event ∷ node.met))) (onto (step s node event).notes (met_in s node.met event ∷ node.met)) (behind_fronts s node event)
    (sends_same s.cluster (step s node event).sends (onto (step s node event).notes (met_in s node.met event ∷ node.met)))
    (subst (λ met. SameLease s.cluster met (behind_fronts s node event)) (sym (ap (λ notes. onto notes (met_in s node.met event ∷ node.met)) parts.is ∙ onto_append (fronts s node event) parts.rest (met_in s node.met event ∷ node.met)))
    (rest_same s.cluster parts.rest (behind_fronts s node event) parts.each)))

pub counts_same : (c : Cluster) (one two : List Met) → SameLease c one two → CountsAt c two → CountsAt c one
counts_same c one two s h e is i = s.counted (suc i) e ∙ h e (sym (λ j. epoch_of (s.start j) (s.lease j)) ∙ is) i ∙ sym (λ j. is_some (get_or (s.lease j).until i None))

-- ---- what a message and a tick change

module _ (s : Setting) (full : is_full s.cluster s.me ≡ true) (few : (s.cluster).cells ≤ 5) (met : List Met) (k : Counting s.cluster met) (h : CountsAt s.cluster met) where
  abbrev c : Cluster
  c = s.cluster

  abbrev start : ℕ
  start = start_of met

  abbrev calls : List Call
  calls = coordinator_calls c met

  abbrev lease : Lease
  lease = lease_of start c.cells calls

  -- these calls, with what is then noted
  abbrev Counted_so : List Call → List Met → Type 0
  Counted_so more notes = (e : Epoch) → epoch_after start c.cells (more ++ calls) ≡ Some e → (i : ℕ) → after_counted (suc i) e notes (counted_met met (suc i) e) ≡ is_some (get_or (lease_of start c.cells (more ++ calls)).until i None)

  -- a new epoch has no cells
  new_none : (e : Epoch) (i : ℕ) → e.start ≡ start → e.count ≡ 1 + endings start c.cells calls → counted_met met (suc i) e ≡ false
  new_none e i starts counts_more = by (counted_met met (suc i) e) refl
    where
      never : EpochReached c met e → ⊥
      never (inl less) = omega (arith, less, starts)
      never (inr most) = let le = most.1 in omega (arith, le, counts_more)

      by : (t : Bool) → counted_met met (suc i) e ≡ t → t ≡ false
      by true is = absurd (never (k.reach (suc i) e is))
      by false is = refl

  counts_more : (cell : ℕ) (epoch : Epoch) (until now : ℕ) → Counted_so (GrantCall cell epoch until now ∷ []) (counts_notes cell epoch (is_some (counted_by lease cell)) (granted_answer start c.cells lease cell epoch until now))
  counts_more cell epoch until now e is i = by (counts start c.cells lease cell epoch until now) refl is
    where
      answer : Bool → Counted
      answer t = cond t (cond (not lease.serves && is_majority c.cells (until_with lease cell until)) ServingAnswer Yes) No

      with_note : (was : Bool) (a : Counted) → (a ≡ No → ⊥) → (x : Bool) → after_counted (suc i) e (counts_notes cell epoch was a) x ≡ cond was x (cond (cell == suc i && is_same_epoch epoch e) true x)
      with_note was No busy x = absurd (busy refl)
      with_note true Yes busy x = refl
      with_note false Yes busy x = refl
      with_note true ServingAnswer busy x = refl
      with_note false ServingAnswer busy x = refl

      no_answer : (t : Bool) → cond t ServingAnswer Yes ≡ No → ⊥
      no_answer true e = cc
      no_answer false e = cc

      same_self : (x : Epoch) → is_same_epoch x x ≡ true
      same_self x = and_from (x.start == x.start) (x.count == x.count) (number_self x.start) (number_self x.count)

      -- the slot of the cell
      here : (was : Bool) → is_some (counted_by lease cell) ≡ was → 0 < cell → epoch ≡ e → cond was (is_some (get_or lease.until i None)) (cond (cell == suc i && is_same_epoch epoch e) true (is_some (get_or lease.until i None))) ≡ cond (cell - 1 == i) true (is_some (get_or lease.until i None))
      here true at above same = by_slot (cell - 1 == i) refl
        where
          by_slot : (t : Bool) → (cell - 1 == i) ≡ t → is_some (get_or lease.until i None) ≡ cond t true (is_some (get_or lease.until i None))
          by_slot true there = ap (λ j. is_some (get_or lease.until j None)) (sym (number_is (cell - 1) i there)) ∙ at
          by_slot false there = refl
      here false at above same = ap (λ t. cond t true (is_some (get_or lease.until i None))) (with_same (cell == suc i) ∙ slot_of cell i above)
        where
          with_same : (t : Bool) → (t && is_same_epoch epoch e) ≡ t
          with_same true = ap (λ x. is_same_epoch x e) same ∙ same_self e
          with_same false = refl

          slot_of : (n j : ℕ) → 0 < n → (n == suc j) ≡ (n - 1 == j)
          slot_of n j less = by_both (n == suc j) refl (n - 1 == j) refl
            where
              differ : (a b : ℕ) → (a == b) ≡ false → a ≡ b → ⊥
              differ a b h k = grind (arith, nat_tests)

              by_both : (t : Bool) → (n == suc j) ≡ t → (u : Bool) → (n - 1 == j) ≡ u → t ≡ u
              by_both true p true q = refl
              by_both false p false q = refl
              by_both true p false q = absurd (differ (n - 1) j q (let is = number_is n (suc j) p in omega (arith, is)))
              by_both false p true q = absurd (differ n (suc j) p (let is = number_is (n - 1) j q in omega (arith, is, less)))

      some_same : (x y : Epoch) → Some x ≡ Some y → x ≡ y
      some_same x y p = cc

      by : (t : Bool) → counts start c.cells lease cell epoch until now ≡ t → epoch_of start (cond t (after_grant c.cells lease cell until) lease) ≡ Some e
          → after_counted (suc i) e (counts_notes cell epoch (is_some (counted_by lease cell)) (answer t)) (counted_met met (suc i) e) ≡ is_some (get_or (cond t (after_grant c.cells lease cell until) lease).until i None)
      by true at present = let is = counts_is start c.cells lease cell epoch until now at in
          with_note (is_some (counted_by lease cell)) (answer true) (no_answer (not lease.serves && is_majority c.cells (until_with lease cell until))) (counted_met met (suc i) e)
          ∙ (λ j. cond (is_some (counted_by lease cell)) (h e present i j) (cond (cell == suc i && is_same_epoch epoch e) true (h e present i j)))
          ∙ here (is_some (counted_by lease cell)) refl is.above (some_same epoch e (sym is.present ∙ present))
          ∙ sym (set_slot lease.until (cell - 1) i (max until (unwrap_or (counted_by lease cell) 0)) (slot_within cell is.above is.most))
        where
          slot_within : (n : ℕ) → 0 < n → n ≤ c.cells → n - 1 < length lease.until
          slot_within n above most = let five = (slots_of start c.cells calls few).five in omega (arith, above, most, few, five)
      by false at present = h e present i

  acquire_same : (cell : ℕ) (e : Epoch) (t : Bool) (from : ℕ) (epoch : Epoch) (a : Asked) (x : Bool) → after_counted cell e (cond t (grant_note from epoch a) []) x ≡ x
  acquire_same cell e false from epoch a x = refl
  acquire_same cell e true from epoch Granted x = refl
  acquire_same cell e true from epoch Renewed x = refl
  acquire_same cell e true from epoch (GreaterHeld greatest) x = refl
  acquire_same cell e true from epoch (Over greatest) x = refl

  body_counts : (from : ℕ) (body : Body) → Counted_so (told_by c (clock_of met) body) (told_notes s met from body)
  body_counts from (GrantedBody cell epoch clock) = by (is_full c s.me) full (nat_le cell c.cells)
    where
      by : (f : Bool) → f ≡ true → (u : Bool) → Counted_so (cond u (GrantCall cell epoch (clock + c.lease) (clock_of met) ∷ []) []) (cond (f && u) (grant_notes c met cell epoch clock) [])
      by true is true = counts_more cell epoch (clock + c.lease) (clock_of met)
      by true is false = h
      by false is u = cc
  body_counts from (Past cell epoch greatest) = by (nat_le cell c.cells)
    where
      within : (t : Bool) → past_ends start lease epoch ≡ t → (e : Epoch) → epoch_of start (cond t (next_lease lease) lease) ≡ Some e → (e.count ≡ cond t 1 0 + endings start c.cells calls) → e.start ≡ start → (i : ℕ)
          → counted_met met (suc i) e ≡ is_some (get_or (cond t (next_lease lease) lease).until i None)
      within true at e is counts_is starts i = new_none e i starts counts_is ∙ sym (none_slot i)
      within false at e is counts_is starts i = h e is i

      by : (u : Bool) → Counted_so (cond u (Passes epoch ∷ []) []) []
      by false = h
      by true = λ e is i. let present = asked_present start c.cells (Passes epoch ∷ calls) e is in within (past_ends start lease epoch) refl e is present.1 present.0 i
  body_counts from (Invalidate op group n) = by (is_full c s.me)
    where
      by : (f : Bool) → (e : Epoch) → epoch_after start c.cells calls ≡ Some e → (i : ℕ) → after_counted (suc i) e (cond f (Invalidates group n.0 ∷ []) []) (counted_met met (suc i) e) ≡ is_some (get_or lease.until i None)
      by true = h
      by false = h
  body_counts from (Acquire cell epoch clock) = λ e is i. acquire_same (suc i) e (cell == s.me && nat_le s.me c.cells) from epoch (asked_for c s.me met from epoch) (counted_met met (suc i) e) ∙ h e is i
  body_counts from _ = h

  -- ---- a tick

  lost_same : (cell : ℕ) (e : Epoch) (o : Option Epoch) (x : Bool) → after_counted cell e (lost_note o) x ≡ x
  lost_same cell e None x = refl
  lost_same cell e (Some epoch) x = refl

  lapses_same : (cell : ℕ) (e : Epoch) (those : List ℕ) (f : ℕ → Option Epoch) (x : Bool) → after_counted cell e (flat_map (λ node. lapse_note node (f node)) those) x ≡ x
  lapses_same cell e [] f x = refl
  lapses_same cell e (node ∷ those) f x = after_both cell e (lapse_note node (f node)) (flat_map (λ other. lapse_note other (f other)) those) x ∙ lapses_same cell e those f (after_counted cell e (lapse_note node (f node)) x) ∙ one (f node)
    where
      one : (o : Option Epoch) → after_counted cell e (lapse_note node o) x ≡ x
      one None = refl
      one (Some epoch) = refl

  -- what is forgotten of the present epoch
  forgets_of : (cell : ℕ) (e : Epoch) (those : List ℕ) (x : Bool) → after_counted cell e (map (λ other. Forgets other e) those) x ≡ cond (has cell those) false x
  forgets_of cell e [] x = refl
  forgets_of cell e (other ∷ those) x = forgets_of cell e those (cond (other == cell && is_same_epoch e e) false x) ∙ by (other == cell) (is_same_epoch e e) (same_self e) (has cell those)
    where
      same_self : (y : Epoch) → is_same_epoch y y ≡ true
      same_self y = and_from (y.start == y.start) (y.count == y.count) (number_self y.start) (number_self y.count)

      by : (t u : Bool) → u ≡ true → (w : Bool) → cond w false (cond (t && u) false x) ≡ cond (t || w) false x
      by true true at true = refl
      by true true at false = refl
      by false true at true = refl
      by false true at false = refl
      by t false at w = cc

  -- what is forgotten was counted
  forgets_less : (cell : ℕ) (e : Epoch) (o : Option Epoch) (those : List ℕ) → after_counted cell e (forget_notes o those) false ≡ false
  forgets_less cell e None those = refl
  forgets_less cell e (Some epoch) [] = refl
  forgets_less cell e (Some epoch) (other ∷ those) = by (other == cell && is_same_epoch epoch e) (forgets_less cell e (Some epoch) those)
    where
      by : (t : Bool) → after_counted cell e (map (λ x. Forgets x epoch) those) false ≡ false → after_counted cell e (map (λ x. Forgets x epoch) those) (cond t false false) ≡ false
      by true rest = rest
      by false rest = rest

  has_cell : (f : ℕ → Bool) (cell base n : ℕ) → base ≤ cell → cell < base + n → has cell (filter f (range_with_len base n)) ≡ f cell
  has_cell f cell base zero low high = absurd (omega (arith, low, high))
  has_cell f cell base (suc n) low high = by (base == cell) refl (f base) refl (λ next. has_cell f cell (base + 1) n next (omega (arith, high))) (above_none (base + 1) n)
    where
      -- those above are others
      above_none : (b m : ℕ) → cell < b → has cell (filter f (range_with_len b m)) ≡ false
      above_none b zero less = refl
      above_none b (suc m) less = within (f b) (above_none (b + 1) m (omega (arith, less)))
        where
          other : (b == cell) ≡ false
          other = grind (arith, nat_tests)

          within : (t : Bool) → has cell (filter f (range_with_len (b + 1) m)) ≡ false → has cell (cond t (b ∷ filter f (range_with_len (b + 1) m)) (filter f (range_with_len (b + 1) m))) ≡ false
          within true rest = ap (λ x. x || has cell (filter f (range_with_len (b + 1) m))) other ∙ rest
          within false rest = rest

      apart : (x y : ℕ) → (x == y) ≡ false → x ≤ y → x + 1 ≤ y
      apart x y h le = grind (arith, nat_tests)

      by : (t : Bool) → (base == cell) ≡ t → (u : Bool) → f base ≡ u → (base + 1 ≤ cell → has cell (filter f (range_with_len (base + 1) n)) ≡ f cell) → (cell < base + 1 → has cell (filter f (range_with_len (base + 1) n)) ≡ false)
          → has cell (cond u (base ∷ filter f (range_with_len (base + 1) n)) (filter f (range_with_len (base + 1) n))) ≡ f cell
      by true at true fu again none_more = ap (λ x. x || has cell (filter f (range_with_len (base + 1) n))) at ∙ sym (ap f (sym (number_is base cell at)) ∙ fu)
      by true at false fu again none_more = none_more (let same = number_is base cell at in omega (arith, same)) ∙ sym (ap f (sym (number_is base cell at)) ∙ fu)
      by false at true fu again none_more = ap (λ x. x || has cell (filter f (range_with_len (base + 1) n))) at ∙ again (apart base cell at low)
      by false at false fu again none_more = again (apart base cell at low)

  tick_counts : (now : ℕ) → Counted_so (TickCall now ∷ []) (lease_notes s met now ++ lapse_notes s met now)
  tick_counts now e is i = after_both (suc i) e (lease_notes s met now) (lapse_notes s met now) (counted_met met (suc i) e) ∙ lapses_by (nat_le s.me c.cells) (after_counted (suc i) e (lease_notes s met now) (counted_met met (suc i) e)) ∙ leases_by (is_full c s.me) full
    where
      lapses_by : (t : Bool) (y : Bool) → after_counted (suc i) e (cond t (lapses_at c s.me met now) []) y ≡ y
      lapses_by true y = lapses_same (suc i) e lock_nodes (λ node. lapse_for (cell_calls c s.me met) now (keep_of c) node) y
      lapses_by false y = refl

      forgot : List ℕ
      forgot = filter (is_cell_in (tick_told c met now).forgot) (cells c)

      present : (e.start ≡ start) × (e.count ≡ endings start c.cells (TickCall now ∷ calls))
      present = asked_present start c.cells (TickCall now ∷ calls) e is

      -- a cell that is counted is forgotten where it is due
      forgotten : (o : Option ℕ) → get_or lease.until i None ≡ o → cond (has (suc i) forgot) false (is_some o) ≡ (is_some o && not (is_due now o))
      forgotten None at = by (has (suc i) forgot)
        where
          by : (t : Bool) → cond t false false ≡ false
          by true = refl
          by false = refl
      forgotten (Some until) at = ap (λ t. cond t false true) (has_cell (is_cell_in (tick_told c met now).forgot) (suc i) 1 c.cells (omega arith) (let less = (slots_of start c.cells calls few).within i (ap is_some at) in omega (arith, less)) ∙ ap (λ j. get_or (tick_told c met now).forgot j false) (lower i) ∙ due_slot now lease.until i ∙ ap (is_due now) at) ∙ by (is_due now (Some until))
        where
          lower : (m : ℕ) → suc m - 1 ≡ m
          lower m = omega arith

          by : (t : Bool) → cond t false true ≡ (true && not t)
          by true = refl
          by false = refl

      ending : (t : Bool) → tick_ends c.cells lease now ≡ t → epoch_of start (cond t (next_lease lease) (record { count = lease.count; serves = lease.serves; until = map (left now) lease.until })) ≡ Some e
          → e.count ≡ cond t 1 0 + endings start c.cells calls → after_counted (suc i) e (forget_notes (epoch_of start lease) forgot) (counted_met met (suc i) e)
          ≡ is_some (get_or (cond t (next_lease lease) (record { count = lease.count; serves = lease.serves; until = map (left now) lease.until })).until i None)
      ending true at next more = ap (after_counted (suc i) e (forget_notes (epoch_of start lease) forgot)) (new_none e i present.0 more) ∙ forgets_less (suc i) e (epoch_of start lease) forgot ∙ sym (none_slot i)
      ending false at next more = ap (λ o. after_counted (suc i) e (forget_notes o forgot) (counted_met met (suc i) e)) next ∙ forgets_of (suc i) e forgot (counted_met met (suc i) e)
          ∙ ap (λ x. cond (has (suc i) forgot) false x) (h e next i) ∙ forgotten (get_or lease.until i None) refl ∙ sym (left_slot now lease.until i)

      leases_by : (f : Bool) → f ≡ true → after_counted (suc i) e (cond f (tick_notes c met now) []) (counted_met met (suc i) e) ≡ is_some (get_or (lease_of start c.cells (TickCall now ∷ calls)).until i None)
      leases_by true at = after_both (suc i) e (forget_notes (epoch_of start lease) forgot) (lost_note (tick_told c met now).lost) (counted_met met (suc i) e)
          ∙ lost_same (suc i) e (tick_told c met now).lost (after_counted (suc i) e (forget_notes (epoch_of start lease) forgot) (counted_met met (suc i) e)) ∙ ending (tick_ends c.cells lease now) refl is present.1
      leases_by false at = cc

-- ---- a step

pub step_counts : (s : Setting) → is_full s.cluster s.me ≡ true → (s.cluster).cells ≤ 5 → (node : Node) (event : Event) → Counting s.cluster node.met → CountsAt s.cluster node.met → CountsAt s.cluster ((step s node event).node).met
step_counts s full few node event k h = counts_same s.cluster ((step s node event).node).met (behind_fronts s node event) (step_same s node event) behind
  where
    u : Uncalled s.cluster (behind_fronts s node event) (met_in s node.met event ∷ node.met)
    u = uncalled_all s.cluster (fronts s node event) (met_in s node.met event ∷ node.met) (fronts_no_call s node event)

    by : (event : Event) (e : Epoch) → present_at s.cluster (met_in s node.met event ∷ node.met) ≡ Some e → (i : ℕ)
        → after_counted (suc i) e (fronts s node event) (counted_met (met_in s node.met event ∷ node.met) (suc i) e) ≡ is_some (get_or (lease_at s.cluster (met_in s node.met event ∷ node.met)).until i None)
    by (Tick now) = tick_counts s full few node.met k h now
    by (Take m) = body_counts s full few node.met k h m.from m.body
    by (Begin request text) = h

    behind : CountsAt s.cluster (behind_fronts s node event)
    behind e is i = onto_counted (suc i) e (fronts s node event) (met_in s node.met event ∷ node.met) ∙ by event e (sym (λ j. epoch_after (u.start j) (s.cluster).cells (u.calls j)) ∙ is) i
        ∙ sym (λ j. is_some (get_or (lease_of (u.start j) (s.cluster).cells (u.calls j)).until i None))

-- what a step counts
abbrev pub CountsNow : Cluster → List Met → ℕ → Epoch → Type 0
CountsNow c met cell e = IsCounted (start_of met) c.cells (lease_at c met) cell e

no_counts : (G : ℕ → Epoch → Type 0) (notes : List Met) → Each IsRest notes → Each (CountNote G) notes
no_counts G [] h = tt
no_counts G (Decides group position entry ∷ notes) h = (tt, no_counts G notes h.1)
no_counts G (Applies group position ∷ notes) h = (tt, no_counts G notes h.1)
no_counts G (Validates group position ∷ notes) h = (tt, no_counts G notes h.1)
no_counts G (Answers op answer ∷ notes) h = (tt, no_counts G notes h.1)
no_counts G (_ ∷ notes) h = absurd h.0

pub step_counted : (s : Setting) (node : Node) (event : Event) → Each (CountNote (CountsNow s.cluster node.met)) (step s node event).notes
step_counted s node event = let parts = step_parts s node event in
    subst (Each (CountNote (CountsNow s.cluster node.met))) (sym parts.is) (each_both (CountNote (CountsNow s.cluster node.met)) (fronts s node event) parts.rest (by event) (no_counts (CountsNow s.cluster node.met) parts.rest parts.each))
  where
    grants : (t : Bool) (from : ℕ) (epoch : Epoch) (a : Asked) → Each (CountNote (CountsNow s.cluster node.met)) (cond t (grant_note from epoch a) [])
    grants false from epoch a = tt
    grants true from epoch Granted = (tt, tt)
    grants true from epoch Renewed = tt
    grants true from epoch (GreaterHeld greatest) = tt
    grants true from epoch (Over greatest) = tt

    counting : (cell : ℕ) (epoch : Epoch) (until now : ℕ) (was : Bool) (t : Bool) → counts (start_of node.met) (s.cluster).cells (lease_at s.cluster node.met) cell epoch until now ≡ t → (w : Bool)
        → Each (CountNote (CountsNow s.cluster node.met)) (counts_notes cell epoch was (cond t (cond w ServingAnswer Yes) No))
    counting cell epoch until now was false at w = tt
    counting cell epoch until now true true at true = (tt, tt)
    counting cell epoch until now true true at false = tt
    counting cell epoch until now false true at true = (counts_is (start_of node.met) (s.cluster).cells (lease_at s.cluster node.met) cell epoch until now at, (tt, tt))
    counting cell epoch until now false true at false = (counts_is (start_of node.met) (s.cluster).cells (lease_at s.cluster node.met) cell epoch until now at, tt)

    told : (from : ℕ) (body : Body) → Each (CountNote (CountsNow s.cluster node.met)) (told_notes s node.met from body)
    told from (Acquire cell epoch clock) = grants (cell == s.me && nat_le s.me (s.cluster).cells) from epoch (asked_for s.cluster s.me node.met from epoch)
    told from (GrantedBody cell epoch clock) = within (is_full s.cluster s.me && nat_le cell (s.cluster).cells)
      where
        within : (t : Bool) → Each (CountNote (CountsNow s.cluster node.met)) (cond t (grant_notes s.cluster node.met cell epoch clock) [])
        within false = tt
        within true = counting cell epoch (clock + (s.cluster).lease) (clock_of node.met) (is_some (counted_by (lease_at s.cluster node.met) cell))
            (counts (start_of node.met) (s.cluster).cells (lease_at s.cluster node.met) cell epoch (clock + (s.cluster).lease) (clock_of node.met)) refl
            (not (lease_at s.cluster node.met).serves && is_majority (s.cluster).cells (until_with (lease_at s.cluster node.met) cell (clock + (s.cluster).lease)))
    told from (Invalidate op group n) = within (is_full s.cluster s.me)
      where
        within : (t : Bool) → Each (CountNote (CountsNow s.cluster node.met)) (cond t (Invalidates group n.0 ∷ []) [])
        within true = (tt, tt)
        within false = tt
    told from _ = tt

    forgets : (o : Option Epoch) (xs : List ℕ) → Each (CountNote (CountsNow s.cluster node.met)) (forget_notes o xs)
    forgets None xs = tt
    forgets (Some epoch) [] = tt
    forgets (Some epoch) (cell ∷ xs) = (tt, forgets (Some epoch) xs)

    lost : (o : Option Epoch) → Each (CountNote (CountsNow s.cluster node.met)) (lost_note o)
    lost None = tt
    lost (Some epoch) = (tt, tt)

    lapses : (those : List ℕ) (f : ℕ → Option Epoch) → Each (CountNote (CountsNow s.cluster node.met)) (flat_map (λ other. lapse_note other (f other)) those)
    lapses [] f = tt
    lapses (other ∷ those) f = each_both (CountNote (CountsNow s.cluster node.met)) (lapse_note other (f other)) (flat_map (λ x. lapse_note x (f x)) those) (one (f other)) (lapses those f)
      where
        one : (o : Option Epoch) → Each (CountNote (CountsNow s.cluster node.met)) (lapse_note other o)
        one None = tt
        one (Some epoch) = (tt, tt)

    if_so : (t : Bool) (xs : List Met) → Each (CountNote (CountsNow s.cluster node.met)) xs → Each (CountNote (CountsNow s.cluster node.met)) (cond t xs [])
    if_so true xs k = k
    if_so false xs k = tt

    by : (event : Event) → Each (CountNote (CountsNow s.cluster node.met)) (fronts s node event)
    by (Take m) = told m.from m.body
    by (Begin request text) = tt
    by (Tick now) = each_both (CountNote (CountsNow s.cluster node.met)) (lease_notes s node.met now) (lapse_notes s node.met now)
        (if_so (is_full s.cluster s.me) (tick_notes s.cluster node.met now) (each_both (CountNote (CountsNow s.cluster node.met)) (forget_notes (epoch_after (start_of node.met) (s.cluster).cells (coordinator_calls s.cluster node.met)) (filter (is_cell_in (tick_told s.cluster node.met now).forgot) (cells s.cluster))) (lost_note (tick_told s.cluster node.met now).lost)
        (forgets (epoch_after (start_of node.met) (s.cluster).cells (coordinator_calls s.cluster node.met)) (filter (is_cell_in (tick_told s.cluster node.met now).forgot) (cells s.cluster))) (lost (tick_told s.cluster node.met now).lost)))
        (if_so (nat_le s.me (s.cluster).cells) (lapses_at s.cluster s.me node.met now) (lapses lock_nodes (λ other. lapse_for (cell_calls s.cluster s.me node.met) now (keep_of s.cluster) other)))

-- ---- a majority

cells_counted : (xs : List (Option ℕ)) (f : ℕ → Bool) (base n : ℕ) → ((i : ℕ) → is_some (get_or xs i None) ≡ true → (i < n) × (f (base + i) ≡ true)) → count_by is_some xs ≤ count f (range_with_len base n)
cells_counted [] f base n h = omega arith
cells_counted (x ∷ xs) f base zero h = let first = sum_by-cons (λ (o : Option ℕ). cond (is_some o) 1 0) x xs in let rest = cells_counted xs f (base + 1) zero (λ i is. absurd (none_there (suc i) is)) in
    let none_here = not_here x refl in omega (arith, first, rest, none_here)
  where
    none_there : (i : ℕ) → is_some (get_or (x ∷ xs) i None) ≡ true → ⊥
    none_there i is = let less = (h i is).0 in omega (arith, less)

    not_here : (o : Option ℕ) → x ≡ o → cond (is_some o) 1 0 ≤ 0
    not_here None at = omega arith
    not_here (Some y) at = absurd (none_there 0 (ap is_some at))
cells_counted (x ∷ xs) f base (suc n) h = let first = sum_by-cons (λ (o : Option ℕ). cond (is_some o) 1 0) x xs in let rest = cells_counted xs f (base + 1) n (λ i is. let k = h (suc i) is in (lower i n k.0, subst (λ y. f y ≡ true) (shifted base i) k.1)) in
    let here = first_here x refl (f base) refl in omega (arith, first, rest, here)
  where
    lower : (i m : ℕ) → suc i < suc m → i < m
    lower i m less = omega (arith, less)

    shifted : (b i : ℕ) → b + suc i ≡ (b + 1) + i
    shifted b i = omega arith

    at_base : is_some x ≡ true → f base ≡ true
    at_base is = subst (λ y. f y ≡ true) (zero_more base) (h 0 is).1
      where
        zero_more : (b : ℕ) → b + 0 ≡ b
        zero_more b = omega arith

    first_here : (o : Option ℕ) → x ≡ o → (t : Bool) → f base ≡ t → cond (is_some o) 1 0 ≤ cond t 1 0
    first_here None at true fb = omega arith
    first_here None at false fb = omega arith
    first_here (Some y) at true fb = omega arith
    first_here (Some y) at false fb = absurd (let clashing = sym (at_base (ap is_some at)) ∙ fb in cc)

half_more : (n k m : ℕ) → n / 2 + 1 ≤ k → k ≤ m → n < 2 * m
half_more n k m h le = omega (arith, h, le)

-- an epoch that serves counts a majority
pub serving_majority : (c : Cluster) (met : List Met) (e : Epoch) (f : ℕ → Bool) → c.cells ≤ 5 → serves_at c met ≡ Some e → ((i : ℕ) → f (suc i) ≡ is_some (get_or (lease_at c met).until i None)) → IsCellMajority c f
serving_majority c met e f few is same = half_more c.cells (count_by is_some (lease_at c met).until) (count f (cells c)) (serves_alone (start_of met) c.cells (coordinator_calls c met) e is).majority
    (cells_counted (lease_at c met).until f 1 c.cells (λ i some. ((slots_of (start_of met) c.cells (coordinator_calls c met) few).within i some, ap f (next_of i) ∙ same i ∙ some)))
  where
    next_of : (i : ℕ) → 1 + i ≡ suc i
    next_of i = omega arith
