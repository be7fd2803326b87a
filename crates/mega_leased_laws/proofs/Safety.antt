-- As long as leases are safe no node counts a cell under an epoch that the cell lapsed.
use Rattle.std.proofs.Common.{◌≡◌, ◌⊎◌, inl, inr, ℕ, zero, suc, ◌+◌, ◌-◌, ◌==◌, ◌&&◌, ◌||◌, ◌≤◌, ◌<◌, not, Bool, true, false, cond, List, [], ◌∷◌, ◌++◌, flat_map, get_or, map, Some, None, is_some, refl, sym, ap, ◌∙◌, subst, arith}
use Rattle.std.proofs.lemmas.Bool.{false_from_ne_true}
use Rattle.mega_base.specs.declared.names.Epoch.{Epoch}
use Rattle.mega_locks.proofs.Marks.{same_is, same_self}
use Rattle.mega_cluster.specs.declared.cluster.Cluster.{Cluster}
use Rattle.mega_coordinator.specs.Groups.{is_same}
use Rattle.mega_coordinator.specs.Lease.{counted_by}
use Rattle.mega_coordinator.specs.History.{lease_of}
use Rattle.mega_coordinator.specs.Laws.{epoch_at}
use Rattle.mega_coordinator.proofs.Epochs.{epoch_counts}
use Rattle.mega_handler.specs.Named.{Meanings}
use Rattle.mega_wire.specs.declared.message.Message.{Message}
use Rattle.mega_lease_laws.specs.of_run_laws.of_tape_laws.of_promises.of_transcript.declared.item.Item.{Item}
use Rattle.mega_lease_laws.specs.of_run_laws.of_tape_laws.of_promises.of_transcript.declared.item.Item.TheVariants.{Answer, Apply, Begin as BeginItem, Counts as CountsItem, Crash, Cut as CutItem, Decide, Dropped, Forgets as ForgetsItem, Grant, Invalid, Lapse, Lost, Sent, Serving, Start, Taken, Tick as TickItem, Unsafe, Unsent, Valid}
use Rattle.mega_lease_laws.specs.of_run_laws.of_tape_laws.of_promises.of_transcript.Tape.{sent_count}
use Rattle.mega_lease_laws.specs.of_run_laws.of_tape_laws.of_promises.Items.{number, shown}
use Rattle.mega_lease_laws.specs.of_run_laws.of_tape_laws.of_promises.Messages.{is_unsafe}
use Rattle.mega_lease_laws.specs.of_run_laws.of_tape_laws.of_promises.Promises.{Stands}
use Rattle.mega_lease_laws.specs.of_run_laws.of_tape_laws.of_promises.Runs.{Standing, breaks, counts_cell, has_lapsed, met_in, nothing_yet, same_epoch, set_at, setting, with_item, with_items}
use Rattle.mega_lease_laws.specs.of_run_laws.of_tape_laws.of_promises.of_rules.Met.{Met, Starts, Crashes, Ticks, Begins, Takes, Sends, Unsends, Grants, Lapses, Counts, Forgets, Serves, Loses, Validates, Invalidates, Decides, Applies, Answers}
use Rattle.mega_lease_laws.specs.of_run_laws.of_tape_laws.of_promises.of_rules.Clock.{is_up, start_of}
use Rattle.mega_lease_laws.specs.of_run_laws.of_tape_laws.of_promises.of_rules.Coordinators.{coordinator_calls}
use Rattle.mega_lease_laws.specs.of_run_laws.of_tape_laws.of_promises.of_rules.Members.{is_full}
use Rattle.mega_lease_laws.specs.of_run_laws.of_tape_laws.of_promises.of_rules.Operations.{Node, Setting}
use Rattle.mega_lease_laws.specs.of_run_laws.of_tape_laws.of_promises.of_rules.Steps.{Begin, Event, Step, Take, Tick, crashed, onto, start, start_items, start_notes, step}
use Rattle.mega_lease_laws.proofs.of_run_laws.of_tape_laws.Ballots.{clash, number_is, number_self}
use Rattle.mega_lease_laws.specs.of_run_laws.Justified.{Each, sent}
use Rattle.mega_lease_laws.proofs.of_run_laws.Events.{each_append as each_both, onto_append}
use Rattle.mega_lease_laws.proofs.of_run_laws.Runs.{IsMark}
use Rattle.mega_valid_laws.specs.Leases.{counted_on}
use Rattle.mega_valid_laws.proofs.Folds.{IsOwn, IsOwnNote, TapeFold, with_told, same_if}
use Rattle.mega_leased_laws.proofs.Forms.{Holds, down, stepped}
use Rattle.mega_leased_laws.proofs.TapeIsMet.{cuts_told, falls_told, marks_told, starts_told, step_met, steps_told}
use Rattle.mega_leased_laws.proofs.Locks.{IsOwed}
use Rattle.mega_leased_laws.proofs.Cells.{by_node, occurs_own, own_noted, sends_still, start_owed, step_still}
use Rattle.mega_leased_laws.proofs.EpochReached.{Grown, IsWithin, EpochReached, asked_present, grown_onto, present_before, present_reached, reached_grown, reached_start}
use Rattle.mega_valid_laws.proofs.NoCalls.{Uncalled, uncalled_all}
use Rattle.mega_leased_laws.proofs.Counting.{CountNote, Counting, CountsAt, CountsNow, counted_met, counted_then, lease_at, next_counted, none_slot, present_at, step_counted, step_counts, tells_counted}
use Rattle.mega_leased_laws.proofs.Validating.{Ruled, owed_no_call}
use Rattle.mega_leased_laws.proofs.Epochs.{still_within}

-- ---- what lapsed

abbrev pub lapsed_on : ℕ → Epoch → List Item → ℕ → Bool
lapsed_on node epoch [] cell = false
lapsed_on node epoch (Lapse who to e ∷ before) cell = cond (who == cell) ((to.0 == node && is_same e epoch) || lapsed_on node epoch before cell) (lapsed_on node epoch before cell)
lapsed_on node epoch (_ ∷ before) cell = lapsed_on node epoch before cell

abbrev next_lapsed : ℕ → Epoch → Met → Bool → Bool
next_lapsed node epoch (Lapses to e) x = (to == node && is_same e epoch) || x
next_lapsed node epoch _ x = x

module _ (node : ℕ) (epoch : Epoch) where
  pub lapse_stands : (cell : ℕ) (tape : List Item) → Stands (Lapse cell (number node) epoch) tape → lapsed_on node epoch tape cell ≡ true
  lapse_stands cell [] h = absurd h
  lapse_stands cell (Lapse who to e ∷ before) (inl same) = ap (lapsed_there before) same ∙ here
    where
      lapsed_there : List Item → Item → Bool
      lapsed_there t x = lapsed_on node epoch (x ∷ t) cell

      here : cond (cell == cell) ((node == node && is_same epoch epoch) || lapsed_on node epoch before cell) (lapsed_on node epoch before cell) ≡ true
      here = ap (λ t. cond t ((node == node && is_same epoch epoch) || lapsed_on node epoch before cell) (lapsed_on node epoch before cell)) (number_self cell)
          ∙ ap (λ t. (t && is_same epoch epoch) || lapsed_on node epoch before cell) (number_self node) ∙ ap (λ t. t || lapsed_on node epoch before cell) (same_self epoch)
  lapse_stands cell (Lapse who to e ∷ before) (inr h) = by (who == cell) (to.0 == node && is_same e epoch) (lapse_stands cell before h)
    where
      by : (t u : Bool) → lapsed_on node epoch before cell ≡ true → cond t (u || lapsed_on node epoch before cell) (lapsed_on node epoch before cell) ≡ true
      by true true k = refl
      by true false k = k
      by false u k = k
  lapse_stands cell (_ ∷ before) (inl same) = absurd (let clashing = same in cc)
  lapse_stands cell (_ ∷ before) (inr h) = lapse_stands cell before h

  lapsed_told : (v : ℕ) (c : Cluster) (nodes : ℕ → Node) (tape : List Item) (item : Item) → lapsed_on node epoch (with_item c nodes tape item) v ≡ lapsed_on node epoch (item ∷ tape) v
  lapsed_told v c nodes tape item = with_told (λ t. lapsed_on node epoch t v) (λ t. refl) c nodes tape item

  lapsed_one : (c : Cluster) (nodes : ℕ → Node) (me v : ℕ) (note : Met) (tape : List Item)
      → lapsed_on node epoch (with_items c nodes tape (shown me note)) v ≡ cond (me == v) (next_lapsed node epoch note (lapsed_on node epoch tape v)) (lapsed_on node epoch tape v)
  lapsed_one c nodes me v (Starts start) tape = lapsed_told v c nodes tape (Start (number me) start) ∙ same_if (me == v) (lapsed_on node epoch tape v)
  lapsed_one c nodes me v Crashes tape = lapsed_told v c nodes tape (Crash (number me)) ∙ same_if (me == v) (lapsed_on node epoch tape v)
  lapsed_one c nodes me v (Ticks now) tape = lapsed_told v c nodes tape (TickItem (number me) now) ∙ same_if (me == v) (lapsed_on node epoch tape v)
  lapsed_one c nodes me v (Begins op text) tape = lapsed_told v c nodes tape (BeginItem op text) ∙ same_if (me == v) (lapsed_on node epoch tape v)
  lapsed_one c nodes me v (Takes message) tape = same_if (me == v) (lapsed_on node epoch tape v)
  lapsed_one c nodes me v (Sends message) tape = same_if (me == v) (lapsed_on node epoch tape v)
  lapsed_one c nodes me v (Unsends message) tape = lapsed_told v c nodes tape (Unsent (number me) message) ∙ same_if (me == v) (lapsed_on node epoch tape v)
  lapsed_one c nodes me v (Grants to e) tape = lapsed_told v c nodes tape (Grant me (number to) e) ∙ same_if (me == v) (lapsed_on node epoch tape v)
  lapsed_one c nodes me v (Lapses to e) tape = lapsed_told v c nodes tape (Lapse me (number to) e)
  lapsed_one c nodes me v (Counts cell e) tape = lapsed_told v c nodes tape (CountsItem (number me) cell e) ∙ same_if (me == v) (lapsed_on node epoch tape v)
  lapsed_one c nodes me v (Forgets cell e) tape = lapsed_told v c nodes tape (ForgetsItem (number me) cell e) ∙ same_if (me == v) (lapsed_on node epoch tape v)
  lapsed_one c nodes me v (Serves e) tape = lapsed_told v c nodes tape (Serving (number me) e) ∙ same_if (me == v) (lapsed_on node epoch tape v)
  lapsed_one c nodes me v (Loses e) tape = lapsed_told v c nodes tape (Lost (number me) e) ∙ same_if (me == v) (lapsed_on node epoch tape v)
  lapsed_one c nodes me v (Validates g position) tape = lapsed_told v c nodes tape (Valid (number me) g (record { 0 = position })) ∙ same_if (me == v) (lapsed_on node epoch tape v)
  lapsed_one c nodes me v (Invalidates g position) tape = lapsed_told v c nodes tape (Invalid (number me) g (record { 0 = position })) ∙ same_if (me == v) (lapsed_on node epoch tape v)
  lapsed_one c nodes me v (Decides g position entry) tape = lapsed_told v c nodes tape (Decide (number me) g (record { 0 = position }) entry) ∙ same_if (me == v) (lapsed_on node epoch tape v)
  lapsed_one c nodes me v (Applies g position) tape = lapsed_told v c nodes tape (Apply (number me) g (record { 0 = position })) ∙ same_if (me == v) (lapsed_on node epoch tape v)
  lapsed_one c nodes me v (Answers op answer) tape = lapsed_told v c nodes tape (Answer op answer) ∙ same_if (me == v) (lapsed_on node epoch tape v)

  lapsed_own : (item : Item) → IsOwn item → (tape : List Item) (v : ℕ) → lapsed_on node epoch (item ∷ tape) v ≡ lapsed_on node epoch tape v
  lapsed_own (Taken j) is tape v = refl
  lapsed_own (Dropped j) is tape v = refl
  lapsed_own CutItem is tape v = refl
  lapsed_own (TickItem who now) is tape v = refl
  lapsed_own (BeginItem op text) is tape v = refl
  lapsed_own _ is tape v = absurd is

  lapsed_note : (one : Met) → IsOwnNote one → (x : Bool) → next_lapsed node epoch one x ≡ x
  lapsed_note (Takes message) is x = refl
  lapsed_note (Ticks now) is x = refl
  lapsed_note (Begins op text) is x = refl
  lapsed_note _ is x = absurd is

  tells_lapsed : TapeFold Bool (lapsed_on node epoch) (next_lapsed node epoch)
  tells_lapsed = record { unsafe = λ tape v. refl; sends = λ k m tape v. refl; one = lapsed_one; sent_met = λ m x. refl; own = lapsed_own; own_note = lapsed_note }

  lapsed_each : (one : Met) (met : List Met) → has_lapsed (one ∷ met) node epoch ≡ next_lapsed node epoch one (has_lapsed met node epoch)
  lapsed_each (Lapses to e) met = refl
  lapsed_each _ met = refl

-- what is said of each epoch that lapses
abbrev LapseNote : (ℕ → Epoch → Type 0) → Met → Type 0
LapseNote F (Lapses node epoch) = F node epoch
LapseNote F _ = Unit {0}

lapsed_next : (F : ℕ → Epoch → Type 0) (one : Met) (met : List Met) (node : ℕ) (epoch : Epoch) → LapseNote F one → has_lapsed (one ∷ met) node epoch ≡ true → F node epoch ⊎ (has_lapsed met node epoch ≡ true)
lapsed_next F (Lapses to e) met node epoch h k = by (to == node) refl (is_same e epoch) refl k
  where
    by : (t : Bool) → (to == node) ≡ t → (u : Bool) → is_same e epoch ≡ u → ((t && u) || has_lapsed met node epoch) ≡ true → F node epoch ⊎ (has_lapsed met node epoch ≡ true)
    by true at true same j = inl (coe 0 1 (i. F (number_is to node at i) (same_is e epoch same i)) h)
    by true at false same j = inr j
    by false at u same j = inr j
lapsed_next F _ met node epoch h k = inr k

lapsed_then : (F : ℕ → Epoch → Type 0) (notes met : List Met) (node : ℕ) (epoch : Epoch) → Each (LapseNote F) notes → has_lapsed (onto notes met) node epoch ≡ true → F node epoch ⊎ (has_lapsed met node epoch ≡ true)
lapsed_then F [] met node epoch h k = inr k
lapsed_then F (one ∷ notes) met node epoch h k = elim (lapsed_then F notes (one ∷ met) node epoch h.1 k) [ inl now ↦ inl now | inr was ↦ lapsed_next F one met node epoch h.0 was ]

-- ---- where leases are safe

unsafe_before : (item : Item) (t : List Item) → is_unsafe (item ∷ t) ≡ false → is_unsafe t ≡ false
unsafe_before Unsafe t h = cc
unsafe_before _ t h = h

sent_safe : (n : ℕ) (ms : List Message) (t : List Item) → is_unsafe (sent n ms t) ≡ false → is_unsafe t ≡ false
sent_safe n [] t h = h
sent_safe n (m ∷ ms) t h = sent_safe (n + 1) ms (Sent n m ∷ t) h

module _ (c : Cluster) (nodes : ℕ → Node) where
  -- it breaks nothing
  abbrev IsUnbroken : Item → Type 0
  IsUnbroken item = breaks c nodes item ≡ false

  safe_item : (t : List Item) (item : Item) → is_unsafe (with_item c nodes t item) ≡ false → (is_unsafe t ≡ false) × IsUnbroken item
  safe_item t item h = by (breaks c nodes item) refl (is_unsafe t) refl h
    where
      by : (b : Bool) → breaks c nodes item ≡ b → (u : Bool) → is_unsafe t ≡ u → is_unsafe (cond (b && not u) (Unsafe ∷ item ∷ t) (item ∷ t)) ≡ false → (is_unsafe t ≡ false) × (breaks c nodes item ≡ false)
      by true at true un k = absurd (let early = sym un ∙ unsafe_before item t k in cc)
      by true at false un k = cc
      by false at u un k = (unsafe_before item t k, at)

  safe_items : (items t : List Item) → is_unsafe (with_items c nodes t items) ≡ false → (is_unsafe t ≡ false) × Each IsUnbroken items
  safe_items [] t h = (h, tt)
  safe_items (item ∷ items) t h = let rest = safe_items items (with_item c nodes t item) h in let one = safe_item t item rest.0 in (one.0, (one.1, rest.1))

  each_parts : (xs ys : List Item) → Each IsUnbroken (xs ++ ys) → Each IsUnbroken xs × Each IsUnbroken ys
  each_parts [] ys h = (tt, h)
  each_parts (x ∷ xs) ys h = let rest = each_parts xs ys h.1 in ((h.0, rest.0), rest.1)

  module _ (me : ℕ) where
    -- no node counts a cell as it lapses, and no cell lapsed as it is counted
    abbrev Uncounted : ℕ → Epoch → Type 0
    Uncounted node epoch = counts_cell c (nodes node).met me epoch ≡ false

    abbrev Unlapsed : ℕ → Epoch → Type 0
    Unlapsed cell epoch = has_lapsed (nodes cell).met me epoch ≡ false

    lapse_one : (note : Met) → Each IsUnbroken (shown me note) → LapseNote Uncounted note
    lapse_one (Lapses node epoch) h = h.0
    lapse_one _ h = tt

    count_one : (note : Met) → Each IsUnbroken (shown me note) → CountNote Unlapsed note
    count_one (Counts cell epoch) h = h.0
    count_one _ h = tt

    unbroken_lapses : (notes : List Met) → Each IsUnbroken (flat_map (shown me) notes) → Each (LapseNote Uncounted) notes
    unbroken_lapses [] h = tt
    unbroken_lapses (note ∷ notes) h = let parts = each_parts (shown me note) (flat_map (shown me) notes) h in (lapse_one note parts.0, unbroken_lapses notes parts.1)

    unbroken_counts : (notes : List Met) → Each IsUnbroken (flat_map (shown me) notes) → Each (CountNote Unlapsed) notes
    unbroken_counts [] h = tt
    unbroken_counts (note ∷ notes) h = let parts = each_parts (shown me note) (flat_map (shown me) notes) h in (count_one note parts.0, unbroken_counts notes parts.1)

-- ---- standings

-- no cell that a node counts under its present epoch lapsed it
abbrev IsSafe : Cluster → (ℕ → Node) → Type 0
IsSafe c nodes = (v : ℕ) → is_full c v ≡ true → is_up (nodes v).met ≡ true → (e : Epoch) → present_at c (nodes v).met ≡ Some e → (cell : ℕ) → counted_met (nodes v).met cell e ≡ true → has_lapsed (nodes cell).met v e ≡ false

pub record Saving (c : Cluster) (tape : List Item) (nodes : ℕ → Node) (owed : ℕ → List Met) : Type 0 where
  pub counting : (v : ℕ) → is_full c v ≡ true → Counting c (nodes v).met
  pub counts : (v : ℕ) → is_full c v ≡ true → is_up (nodes v).met ≡ true → CountsAt c (nodes v).met
  pub counted : (cell : ℕ) (e : Epoch) (v : ℕ) → counted_on tape v cell e ≡ counted_met (nodes v).met cell e
  pub lapsed : (v : ℕ) (e : Epoch) (cell : ℕ) → lapsed_on v e tape cell ≡ has_lapsed (nodes cell).met v e
  pub safe : is_unsafe tape ≡ false → IsSafe c nodes

counted_each : (cell : ℕ) (e : Epoch) (one : Met) (met : List Met) → counted_met (one ∷ met) cell e ≡ next_counted cell e one (counted_met met cell e)
counted_each cell e one met = refl

-- a cell that is counted, as the break is told
counts_true : (c : Cluster) (met : List Met) (cell : ℕ) (e : Epoch) → is_up met ≡ true → Counting c met → CountsAt c met → present_at c met ≡ Some e → counted_met met cell e ≡ true → counts_cell c met cell e ≡ true
counts_true c met zero e up k h present is = clash (counted_met met 0 e) is (k.none e)
counts_true c met (suc i) e up k h present is = joined (is_up met) (same_epoch (present_at c met) e) (is_some (counted_by (lease_at c met) (suc i))) up (ap (λ o. same_epoch o e) present ∙ same_self e)
    (ap (λ j. is_some (get_or (lease_at c met).until j None)) (lower i) ∙ sym (h e present i) ∙ is)
  where
    joined : (a b d : Bool) → a ≡ true → b ≡ true → d ≡ true → ((a && b) && d) ≡ true
    joined true true d p q r = r
    joined true false d p q r = cc
    joined false b d p q r = cc

    lower : (j : ℕ) → suc j - 1 ≡ j
    lower j = omega arith

no_counts_in : (G : ℕ → Epoch → Type 0) (ms : List Message) → Each (CountNote G) (map Sends ms)
no_counts_in G [] = tt
no_counts_in G (m ∷ ms) = (tt, no_counts_in G ms)

no_lapses_in : (F : ℕ → Epoch → Type 0) (ms : List Message) → Each (LapseNote F) (map Sends ms)
no_lapses_in F [] = tt
no_lapses_in F (m ∷ ms) = (tt, no_lapses_in F ms)

-- what was present is so as long as it is present later
present_then : (c : Cluster) (met later : List Met) (e : Epoch) → Grown c met later → EpochReached c met e → present_at c later ≡ Some e → present_at c met ≡ Some e
present_then c met later e g reached is =
    let after = asked_present (start_of later) c.cells _ e is in let before = present_before c met later e g reached after in
    epoch_counts (start_of met) c.cells _ ∙ (λ i. epoch_at (sym g.start i) ((sym before.1 ∙ after.1) i)) ∙ sym (epoch_counts (start_of later) c.cells _) ∙ is

-- ---- a step

module _ (c : Cluster) (few : c.cells ≤ 5) (h : Meanings) (now : Standing) (me : ℕ) (up : is_up (now.node me).met ≡ true) (q : Saving c now.tape now.node now.owed) where
  abbrev s : Setting
  s = setting c h me

  abbrev met : List Met
  met = (now.node me).met

  abbrev made : Event → Step
  made event = step s (now.node me) event

  abbrev nodes' : Event → ℕ → Node
  nodes' event = set_at now.node me (made event).node

  abbrev all_notes : Event → List Met
  all_notes event = (made event).notes ++ map Sends (made event).sends

  last_met : (event : Event) → ((made event).node).met ≡ onto (all_notes event) (met_in s met event ∷ met)
  last_met event = step_met s (now.node me) event ∙ sym (onto_append (made event).notes (map Sends (made event).sends) (met_in s met event ∷ met))

  own_within : (event : Event) → IsWithin (met_in s met event)
  own_within (Tick clock) = tt
  own_within (Take m) = tt
  own_within (Begin request text) = tt

  grown : (event : Event) → Grown c met ((made event).node).met
  grown event = subst (Grown c met) (sym (last_met event)) (grown_onto c (met_in s met event ∷ all_notes event) met
      (own_within event, each_both IsWithin (made event).notes (map Sends (made event).sends) (still_within (made event).notes (step_still s (now.node me) event)) (still_within (map Sends (made event).sends) (sends_still (made event).sends))))

  own_counted : (event : Event) (cell : ℕ) (e : Epoch) → counted_met (met_in s met event ∷ met) cell e ≡ counted_met met cell e
  own_counted event cell e = (tells_counted cell e).own_note (met_in s met event) (own_noted s met event) (counted_met met cell e)

  own_lapsed : (event : Event) (v : ℕ) (e : Epoch) → has_lapsed (met_in s met event ∷ met) v e ≡ has_lapsed met v e
  own_lapsed (Tick clock) v e = refl
  own_lapsed (Take m) v e = refl
  own_lapsed (Begin request text) v e = refl

  -- who is counted then was counted, or is so by this step
  counted_now : (G : ℕ → Epoch → Type 0) (event : Event) → Each (CountNote G) (made event).notes → (cell : ℕ) (e : Epoch) → counted_met ((made event).node).met cell e ≡ true → G cell e ⊎ (counted_met met cell e ≡ true)
  counted_now G event each cell e is = elim (counted_then G (all_notes event) (met_in s met event ∷ met) cell e (each_both (CountNote G) (made event).notes (map Sends (made event).sends) each (no_counts_in G (made event).sends)) (ap (λ x. counted_met x cell e) (sym (last_met event)) ∙ is)) [
    | inl now_counted ↦ inl now_counted
    | inr was ↦ inr (sym (own_counted event cell e) ∙ was)
  ]

  lapsed_now : (F : ℕ → Epoch → Type 0) (event : Event) → Each (LapseNote F) (made event).notes → (v : ℕ) (e : Epoch) → has_lapsed ((made event).node).met v e ≡ true → F v e ⊎ (has_lapsed met v e ≡ true)
  lapsed_now F event each v e is = elim (lapsed_then F (all_notes event) (met_in s met event ∷ met) v e (each_both (LapseNote F) (made event).notes (map Sends (made event).sends) each (no_lapses_in F (made event).sends)) (ap (λ x. has_lapsed x v e) (sym (last_met event)) ∙ is)) [
    | inl now_lapsed ↦ inl now_lapsed
    | inr was ↦ inr (sym (own_lapsed event v e) ∙ was)
  ]

  counting_then : (event : Event) → is_full c me ≡ true → Counting c ((made event).node).met
  counting_then event full = record {
    none = λ e. false_from_ne_true (counted_met ((made event).node).met 0 e) (λ is. elim (counted_now (CountsNow c met) event (step_counted s (now.node me) event) 0 e is) [ inl n ↦ (let less = n.above in omega (arith, less)) | inr was ↦ clash (counted_met met 0 e) was ((q.counting me full).none e) ]);
    reach = λ cell e is. elim (counted_now (CountsNow c met) event (step_counted s (now.node me) event) cell e is) [
      | inl n ↦ reached_grown c met ((made event).node).met e (grown event) (present_reached c met e (asked_present (start_of met) c.cells _ e n.present))
      | inr was ↦ reached_grown c met ((made event).node).met e (grown event) ((q.counting me full).reach cell e was)
    ];
  }

  module _ (item : Item) (event : Event) (own_is : IsOwn item) where
    abbrev those : ℕ → Node
    those = nodes' event

    abbrev second : List Item
    second = with_items c those (item ∷ now.tape) (flat_map (shown me) (made event).notes)

    counting_all : (v : ℕ) → is_full c v ≡ true → Counting c (those v).met
    counting_all = by_node (λ v node. is_full c v ≡ true → Counting c node.met) now.node me (made event).node (counting_then event) (λ v apart. q.counting v)

    counts_all : (v : ℕ) → is_full c v ≡ true → is_up (those v).met ≡ true → CountsAt c (those v).met
    counts_all = by_node (λ v node. is_full c v ≡ true → is_up node.met ≡ true → CountsAt c node.met) now.node me (made event).node
        (λ full still. step_counts s full few (now.node me) event (q.counting me full) (q.counts me full up)) (λ v apart. q.counts v)

    safe_then : is_unsafe second ≡ false → IsSafe c those
    safe_then un v full still e present cell is = false_from_ne_true (has_lapsed (those cell).met v e) (λ has. never has (lapsed_cases has))
      where
        parts : (is_unsafe (item ∷ now.tape) ≡ false) × Each (IsUnbroken c those) (flat_map (shown me) (made event).notes)
        parts = safe_items c those (flat_map (shown me) (made event).notes) (item ∷ now.tape) un

        was_safe : IsSafe c now.node
        was_safe = q.safe (unsafe_before item now.tape parts.0)

        -- the cell lapsed in this step, or before
        lapsed_cases : has_lapsed (those cell).met v e ≡ true → (counts_cell c (those v).met cell e ≡ false) ⊎ (has_lapsed (now.node cell).met v e ≡ true)
        lapsed_cases = by_node (λ w node. has_lapsed node.met v e ≡ true → (counts_cell c (those v).met w e ≡ false) ⊎ (has_lapsed (now.node w).met v e ≡ true)) now.node me (made event).node
            (lapsed_now (Uncounted c those me) event (unbroken_lapses c those me (made event).notes parts.1) v e) (λ w apart k. inr k) cell

        -- and if before, it was not counted then
        counted_cases : is_full c v ≡ true → is_up (those v).met ≡ true → counted_met (those v).met cell e ≡ true → present_at c (those v).met ≡ Some e → (has_lapsed (those cell).met v e ≡ false) ⊎ (has_lapsed (now.node cell).met v e ≡ false)
        counted_cases = by_node (λ w node. is_full c w ≡ true → is_up node.met ≡ true → counted_met node.met cell e ≡ true → present_at c node.met ≡ Some e → (has_lapsed (those cell).met w e ≡ false) ⊎ (has_lapsed (now.node cell).met w e ≡ false)) now.node me (made event).node
            (λ full_me up_then k now_present. elim (counted_now (Unlapsed c those me) event (unbroken_counts c those me (made event).notes parts.1) cell e k) [
              | inl free ↦ inl free
              | inr was ↦ inr (was_safe me full_me up e (present_then c met ((made event).node).met e (grown event) ((q.counting me full_me).reach cell e was) now_present) cell was)
            ]) (λ w apart full_w up_w k now_present. inr (was_safe w full_w up_w e now_present cell k)) v

        never : has_lapsed (those cell).met v e ≡ true → (counts_cell c (those v).met cell e ≡ false) ⊎ (has_lapsed (now.node cell).met v e ≡ true) → ⊥
        never has (inl uncounted) = clash (counts_cell c (those v).met cell e) (counts_true c (those v).met cell e still (counting_all v full) (counts_all v full still) present is) uncounted
        never has (inr lapsed_before) = elim (counted_cases full still is present) [ inl free ↦ clash (has_lapsed (those cell).met v e) has free | inr unlapsed ↦ clash (has_lapsed (now.node cell).met v e) lapsed_before unlapsed ]

    steps_saving : Saving c (stepped c those me now.tape item (made event)) those now.owed
    steps_saving = record {
      counting = counting_all;
      counts = counts_all;
      counted = λ cell e. steps_told (λ t v. counted_on t v cell e) (next_counted cell e) (tells_counted cell e) (λ x. counted_met x cell e) (counted_each cell e) c now.tape now.node (q.counted cell e) those me item (met_in s met event) (made event) own_is
          (own_noted s met event) (step_met s (now.node me) event);
      lapsed = λ v e. steps_told (lapsed_on v e) (next_lapsed v e) (tells_lapsed v e) (λ x. has_lapsed x v e) (lapsed_each v e) c now.tape now.node (q.lapsed v e) those me item (met_in s met event) (made event) own_is
          (own_noted s met event) (step_met s (now.node me) event);
      safe = λ un. safe_then (sent_safe (sent_count now.tape + 1) (made event).sends second un);
    }

    -- it is cut
    abbrev node2 : Node
    node2 = down (met_in s met event) (now.node me)

    abbrev fallen : ℕ → Node
    fallen = set_at now.node me node2

    fallen_grown : Grown c met node2.met
    fallen_grown = grown_onto c (met_in s met event ∷ Crashes ∷ []) met (own_within event, (tt, tt))

    fallen_safe : IsSafe c now.node → IsSafe c fallen
    fallen_safe was v full still e present cell is = by_node (λ w node. has_lapsed (now.node w).met v e ≡ false → has_lapsed node.met v e ≡ false) now.node me node2 (λ free. own_lapsed event v e ∙ free) (λ w apart free. free) cell
        (by_node (λ w node. is_full c w ≡ true → is_up node.met ≡ true → present_at c node.met ≡ Some e → counted_met node.met cell e ≡ true → has_lapsed (now.node cell).met w e ≡ false) now.node me node2
        (λ full_me up_then k j. cc) (λ w apart full_w up_w k j. was w full_w up_w e k cell j) v full still present is)

    cuts_saving : (owed : ℕ → List Met) → Saving c (Crash (number me) ∷ item ∷ now.tape) fallen owed
    cuts_saving owed = record {
      counting = by_node (λ v node. is_full c v ≡ true → Counting c node.met) now.node me node2 (λ full. record {
        none = λ e. own_counted event 0 e ∙ (q.counting me full).none e;
        reach = λ cell e is. reached_grown c met node2.met e fallen_grown ((q.counting me full).reach cell e (sym (own_counted event cell e) ∙ is));
      }) (λ v apart. q.counting v);
      counts = by_node (λ v node. is_full c v ≡ true → is_up node.met ≡ true → CountsAt c node.met) now.node me node2 (λ full still. cc) (λ v apart. q.counts v);
      counted = λ cell e. cuts_told (λ t v. counted_on t v cell e) (next_counted cell e) (tells_counted cell e) (λ x. counted_met x cell e) (counted_each cell e) c now.tape now.node (q.counted cell e) me item (met_in s met event) node2 own_is (own_noted s met event) refl;
      lapsed = λ v e. cuts_told (lapsed_on v e) (next_lapsed v e) (tells_lapsed v e) (λ x. has_lapsed x v e) (lapsed_each v e) c now.tape now.node (q.lapsed v e) me item (met_in s met event) node2 own_is (own_noted s met event) refl;
      safe = λ un. fallen_safe (q.safe (unsafe_before item now.tape (unsafe_before (Crash (number me)) (item ∷ now.tape) un)));
    }

-- ---- starts, crashes and marks

owed_counted : (notes met : List Met) → Each IsOwed notes → (cell : ℕ) (e : Epoch) → counted_met (onto notes met) cell e ≡ counted_met met cell e
owed_counted [] before h cell e = refl
owed_counted (Grants to epoch ∷ notes) before h cell e = owed_counted notes (Grants to epoch ∷ before) h.1 cell e
owed_counted (Lapses to epoch ∷ notes) before h cell e = owed_counted notes (Lapses to epoch ∷ before) h.1 cell e
owed_counted (Decides group n entry ∷ notes) before h cell e = owed_counted notes (Decides group n entry ∷ before) h.1 cell e
owed_counted (Unsends m ∷ notes) before h cell e = owed_counted notes (Unsends m ∷ before) h.1 cell e
owed_counted (Applies group n ∷ notes) before h cell e = owed_counted notes (Applies group n ∷ before) h.1 cell e
owed_counted (_ ∷ notes) before h cell e = absurd h.0

module _ (c : Cluster) (h : Meanings) (now : Standing) (me count : ℕ) (less : start_of (now.node me).met < count) (owes : Each IsOwed (now.owed me)) (q : Saving c now.tape now.node now.owed) where
  abbrev begun : Setting
  begun = setting c h me

  abbrev was : List Met
  was = (now.node me).met

  abbrev shows : List Met
  shows = now.owed me ++ start_notes begun (onto (now.owed me) (Starts count ∷ was))

  abbrev fresh : Node
  fresh = start begun count (now.owed me) was

  abbrev begun_nodes : ℕ → Node
  begun_nodes = set_at now.node me fresh

  shows_owed : Each IsOwed shows
  shows_owed = each_both IsOwed (now.owed me) (start_notes begun (onto (now.owed me) (Starts count ∷ was))) owes (start_owed begun (onto (now.owed me) (Starts count ∷ was)))

  fresh_uncalled : Uncalled c fresh.met (Starts count ∷ was)
  fresh_uncalled = uncalled_all c shows (Starts count ∷ was) (owed_no_call shows shows_owed)

  fresh_counted : (cell : ℕ) (e : Epoch) → counted_met fresh.met cell e ≡ counted_met was cell e
  fresh_counted cell e = owed_counted shows (Starts count ∷ was) shows_owed cell e

  fresh_start : start_of fresh.met ≡ count
  fresh_start = fresh_uncalled.start

  -- nothing is counted under the epochs of this start
  none_new : is_full c me ≡ true → (e : Epoch) → present_at c fresh.met ≡ Some e → (cell : ℕ) → counted_met was cell e ≡ false
  none_new full e present cell = false_from_ne_true (counted_met was cell e) (λ is. never (reached_start c was count e less ((q.counting me full).reach cell e is)) ((asked_present (start_of fresh.met) c.cells (coordinator_calls c fresh.met) e present).0 ∙ fresh_start))
    where
      never : e.start < count → e.start ≡ count → ⊥
      never k same = omega (arith, k, same)

  counting_fresh : is_full c me ≡ true → Counting c fresh.met
  counting_fresh full = record {
    none = λ e. fresh_counted 0 e ∙ (q.counting me full).none e;
    reach = λ cell e is. inl (subst (λ n. e.start < n) (sym fresh_start) (reached_start c was count e less ((q.counting me full).reach cell e (sym (fresh_counted cell e) ∙ is))));
  }

  counts_fresh : is_full c me ≡ true → CountsAt c fresh.met
  counts_fresh full e present i = fresh_counted (suc i) e ∙ none_new full e present (suc i) ∙ sym (none_slot i) ∙ sym (λ j. is_some (get_or (lease_of (fresh_uncalled.start j) c.cells (fresh_uncalled.calls j)).until i None))

  abbrev all_shown : List Item
  all_shown = flat_map (shown me) (Starts count ∷ shows)

  safe_started : is_unsafe (with_items c begun_nodes now.tape all_shown) ≡ false → IsSafe c begun_nodes
  safe_started un v full still e present cell is = false_from_ne_true (has_lapsed (begun_nodes cell).met v e) (λ has. never (lapsed_cases has))
    where
      parts : (is_unsafe now.tape ≡ false) × Each (IsUnbroken c begun_nodes) all_shown
      parts = safe_items c begun_nodes all_shown now.tape un

      was_safe : IsSafe c now.node
      was_safe = q.safe parts.0

      lapsed_cases : has_lapsed (begun_nodes cell).met v e ≡ true → (counts_cell c (begun_nodes v).met cell e ≡ false) ⊎ (has_lapsed (now.node cell).met v e ≡ true)
      lapsed_cases = by_node (λ w node. has_lapsed node.met v e ≡ true → (counts_cell c (begun_nodes v).met w e ≡ false) ⊎ (has_lapsed (now.node w).met v e ≡ true)) now.node me fresh
          (λ k. lapsed_then (Uncounted c begun_nodes me) (Starts count ∷ shows) was v e (unbroken_lapses c begun_nodes me (Starts count ∷ shows) parts.1) k) (λ w apart k. inr k) cell

      counting_all : (w : ℕ) → is_full c w ≡ true → Counting c (begun_nodes w).met
      counting_all = by_node (λ w node. is_full c w ≡ true → Counting c node.met) now.node me fresh counting_fresh (λ w apart. q.counting w)

      counts_all : (w : ℕ) → is_full c w ≡ true → is_up (begun_nodes w).met ≡ true → CountsAt c (begun_nodes w).met
      counts_all = by_node (λ w node. is_full c w ≡ true → is_up node.met ≡ true → CountsAt c node.met) now.node me fresh (λ full_me up_then. counts_fresh full_me) (λ w apart. q.counts w)

      was_free : is_full c v ≡ true → is_up (begun_nodes v).met ≡ true → counted_met (begun_nodes v).met cell e ≡ true → present_at c (begun_nodes v).met ≡ Some e → has_lapsed (now.node cell).met v e ≡ false
      was_free = by_node (λ w node. is_full c w ≡ true → is_up node.met ≡ true → counted_met node.met cell e ≡ true → present_at c node.met ≡ Some e → has_lapsed (now.node cell).met w e ≡ false) now.node me fresh
          (λ full_me up_then k now_present. clash (counted_met fresh.met cell e) k (fresh_counted cell e ∙ none_new full_me e now_present cell)) (λ w apart full_w up_w k now_present. was_safe w full_w up_w e now_present cell k) v

      never : (counts_cell c (begun_nodes v).met cell e ≡ false) ⊎ (has_lapsed (now.node cell).met v e ≡ true) → ⊥
      never (inl uncounted) = clash (counts_cell c (begun_nodes v).met cell e) (counts_true c (begun_nodes v).met cell e still (counting_all v full) (counts_all v full still) present is) uncounted
      never (inr lapsed_before) = clash (has_lapsed (now.node cell).met v e) lapsed_before (was_free full still is present)

  starts_saving : (owed : ℕ → List Met) → Saving c (with_items c begun_nodes now.tape all_shown) begun_nodes owed
  starts_saving owed = record {
    counting = by_node (λ v node. is_full c v ≡ true → Counting c node.met) now.node me fresh counting_fresh (λ v apart. q.counting v);
    counts = by_node (λ v node. is_full c v ≡ true → is_up node.met ≡ true → CountsAt c node.met) now.node me fresh (λ full still. counts_fresh full) (λ v apart. q.counts v);
    counted = λ cell e. starts_told (λ t v. counted_on t v cell e) (next_counted cell e) (tells_counted cell e) (λ x. counted_met x cell e) (counted_each cell e) c now.tape now.node (q.counted cell e) begun_nodes me fresh (start_items begun count (now.owed me) was) refl;
    lapsed = λ v e. starts_told (lapsed_on v e) (next_lapsed v e) (tells_lapsed v e) (λ x. has_lapsed x v e) (lapsed_each v e) c now.tape now.node (q.lapsed v e) begun_nodes me fresh (start_items begun count (now.owed me) was) refl;
    safe = safe_started;
  }

module _ (c : Cluster) (now : Standing) (me : ℕ) (q : Saving c now.tape now.node now.owed) where
  abbrev gone : Node
  gone = crashed (now.node me)

  gone_safe : IsSafe c now.node → IsSafe c (set_at now.node me gone)
  gone_safe was v full still e present cell is = by_node (λ w node. has_lapsed (now.node w).met v e ≡ false → has_lapsed node.met v e ≡ false) now.node me gone (λ free. free) (λ w apart free. free) cell
      (by_node (λ w node. is_full c w ≡ true → is_up node.met ≡ true → present_at c node.met ≡ Some e → counted_met node.met cell e ≡ true → has_lapsed (now.node cell).met w e ≡ false) now.node me gone
      (λ full_me up_then k j. cc) (λ w apart full_w up_w k j. was w full_w up_w e k cell j) v full still present is)

  falls_saving : Saving c (Crash (number me) ∷ now.tape) (set_at now.node me gone) now.owed
  falls_saving = record {
    counting = by_node (λ v node. is_full c v ≡ true → Counting c node.met) now.node me gone (λ full. record {
      none = (q.counting me full).none;
      reach = λ cell e is. reached_grown c (now.node me).met gone.met e (grown_onto c (Crashes ∷ []) (now.node me).met (tt, tt)) ((q.counting me full).reach cell e is);
    }) (λ v apart. q.counting v);
    counts = by_node (λ v node. is_full c v ≡ true → is_up node.met ≡ true → CountsAt c node.met) now.node me gone (λ full still. cc) (λ v apart. q.counts v);
    counted = λ cell e. falls_told (λ t v. counted_on t v cell e) (next_counted cell e) (tells_counted cell e) (λ x. counted_met x cell e) (counted_each cell e) c now.tape now.node (q.counted cell e) me gone refl;
    lapsed = λ v e. falls_told (lapsed_on v e) (next_lapsed v e) (tells_lapsed v e) (λ x. has_lapsed x v e) (lapsed_each v e) c now.tape now.node (q.lapsed v e) me gone refl;
    safe = λ un. gone_safe (q.safe (unsafe_before (Crash (number me)) now.tape un));
  }

marks_saving : (c : Cluster) (tape : List Item) (nodes : ℕ → Node) (owed : ℕ → List Met) (item : Item) → IsMark item → Saving c tape nodes owed → Saving c (item ∷ tape) nodes owed
marks_saving c tape nodes owed item is q = record {
  counting = q.counting;
  counts = q.counts;
  counted = λ cell e. marks_told (λ t v. counted_on t v cell e) (next_counted cell e) (tells_counted cell e) (λ x. counted_met x cell e) (counted_each cell e) c tape nodes (q.counted cell e) item is;
  lapsed = λ v e. marks_told (lapsed_on v e) (next_lapsed v e) (tells_lapsed v e) (λ x. has_lapsed x v e) (lapsed_each v e) c tape nodes (q.lapsed v e) item is;
  safe = λ un. q.safe (unsafe_before item tape un);
}

pub saving_holds : (c : Cluster) → c.cells ≤ 5 → Holds c (Ruled c) (Saving c)
saving_holds c few = record {
  steps = λ h now me item event g p up o plain q. steps_saving c few h now me up q item event (occurs_own now.tape (setting c h me) (now.node me).met item event o);
  cuts = λ h now me item event kept g p up o q. cuts_saving c few h now me up q item event (occurs_own now.tape (setting c h me) (now.node me).met item event o) _;
  starts = λ h now me count g p less q. starts_saving c h now me count less (((p.0).1).cell me).owes q _;
  falls = λ now me g p q. falls_saving c now me q;
  marks = λ now item is g p q. marks_saving c now.tape now.node now.owed item is q;
}

pub nothing_saving : (c : Cluster) → Saving c [] (λ me. nothing_yet.node me) (λ me. [])
nothing_saving c = record {
  counting = λ v full. record { none = λ e. refl; reach = λ cell e is. cc };
  counts = λ v full up. cc;
  counted = λ cell e v. refl;
  lapsed = λ v e cell. refl;
  safe = λ un v full up. cc;
}
