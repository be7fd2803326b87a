-- The greatest position at which a group was invalidated since its node's epoch began to serve: as a tape tells it, and as a coordinator keeps it.
use Rattle.std.proofs.Common.{◌≡◌, inl, inr, ℕ, ◌+◌, max, ◌==◌, ◌&&◌, ◌||◌, ◌≤◌, nat_le, not, Bool, true, false, cond, List, [], ◌∷◌, ◌++◌, filter, flat_map, map, Option, Some, None, is_some, refl, sym, ap, ◌∙◌, subst, arith}
use Rattle.mega_base.specs.declared.names.Epoch.{Epoch}
use Rattle.mega_base.specs.declared.names.GroupId.{GroupId}
use Rattle.mega_base.specs.declared.names.Position.{Position}
use Rattle.mega_cluster.specs.declared.cluster.Cluster.{Cluster}
use Rattle.mega_coordinator.specs.declared.answers.Counted.{Counted}
use Rattle.mega_coordinator.specs.declared.answers.Counted.TheVariants.{No, Yes, Serving as ServingAnswer}
use Rattle.mega_coordinator.specs.declared.lease.Lease.{Lease}
use Rattle.mega_coordinator.specs.Groups.{is_group}
use Rattle.mega_coordinator.specs.Lease.{after_grant, counted_by, counts, epoch_of, granted_answer, is_majority, left, next_lease, past_ends, state_of, tick_ends, until_with}
use Rattle.mega_coordinator.specs.History.{Call, Ticks as TickCall, Grants as GrantCall, Passes, beaten, epoch_after, lease_of, serving}
use Rattle.mega_locks.specs.declared.asked.Asked.{Asked}
use Rattle.mega_locks.specs.declared.asked.Asked.TheVariants.{Granted, Renewed, GreaterHeld, Over}
use Rattle.mega_locks.specs.History.{lapse_for, nodes as lock_nodes}
use Rattle.mega_wal.specs.Same.{same_group}
use Rattle.mega_wal.proofs.Orders.{is_group_is}
use Rattle.mega_wal.proofs.Sames.{same_group_self}
use Rattle.mega_wire.specs.declared.message.Message.{Message}
use Rattle.mega_wire.specs.declared.message.Body.{Body}
use Rattle.mega_wire.specs.declared.message.Body.TheVariants.{Acquire, Granted as GrantedBody, Invalidate, Past}
use Rattle.mega_lease_laws.specs.of_run_laws.of_tape_laws.of_promises.of_transcript.declared.item.Item.{Item}
use Rattle.mega_lease_laws.specs.of_run_laws.of_tape_laws.of_promises.of_transcript.declared.item.Item.TheVariants.{Answer, Apply, Begin as BeginItem, Counts as CountsItem, Crash, Cut as CutItem, Decide, Dropped, Forgets as ForgetsItem, Grant, Invalid, Lapse, Lost, Serving, Start, Taken, Tick as TickItem, Unsent, Valid}
use Rattle.mega_lease_laws.specs.of_run_laws.of_tape_laws.of_promises.Items.{number, shown}
use Rattle.mega_lease_laws.specs.of_run_laws.of_tape_laws.of_promises.Promises.{Stands, StoodBefore}
use Rattle.mega_lease_laws.specs.of_run_laws.of_tape_laws.of_promises.Runs.{met_in, with_item, with_items}
use Rattle.mega_lease_laws.specs.of_run_laws.of_tape_laws.of_promises.of_rules.Met.{Met, Starts, Crashes, Ticks, Begins, Takes, Sends, Unsends, Grants, Lapses, Counts, Forgets, Serves, Loses, Validates, Invalidates, Decides, Applies, Answers}
use Rattle.mega_lease_laws.specs.of_run_laws.of_tape_laws.of_promises.of_rules.Clock.{clock_of, start_of}
use Rattle.mega_lease_laws.specs.of_run_laws.of_tape_laws.of_promises.of_rules.Coordinators.{coordinator_calls, counts_notes, forget_notes, grant_notes, is_cell_in, lost_note, serves_at, tick_notes, tick_told, told_by, validated}
use Rattle.mega_lease_laws.specs.of_run_laws.of_tape_laws.of_promises.of_rules.Locks.{asked_for, cell_calls, grant_note, lapse_note, lapses_at}
use Rattle.mega_lease_laws.specs.of_run_laws.of_tape_laws.of_promises.of_rules.Members.{cells, is_full, keep_of}
use Rattle.mega_lease_laws.specs.of_run_laws.of_tape_laws.of_promises.of_rules.Operations.{Node, Setting}
use Rattle.mega_lease_laws.specs.of_run_laws.of_tape_laws.of_promises.of_rules.Steps.{Begin, Event, Take, Tick, lapse_notes, lease_notes, onto, step, told_notes}
use Rattle.mega_lease_laws.proofs.of_run_laws.of_tape_laws.Ballots.{number_is, number_self}
use Rattle.mega_lease_laws.specs.of_run_laws.Justified.{Each}
use Rattle.mega_lease_laws.proofs.of_run_laws.Events.{each_append as each_both, onto_append}
use Rattle.mega_valid_laws.specs.Leases.{serving_on}
use Rattle.mega_valid_laws.proofs.NoCalls.{IsNoCall, Uncalled, forgets_no_call, lost_no_call, no_call_if, told_no_call, uncalled_all}
use Rattle.mega_valid_laws.proofs.Folds.{IsOwn, IsOwnNote, TapeFold, with_told, cond_as, same_if}
use Rattle.mega_valid_laws.proofs.Orders.{stood_first}
use Rattle.mega_leased_laws.specs.Items.{Are}
use Rattle.mega_leased_laws.specs.Serving.{IsServing}
use Rattle.mega_leased_laws.proofs.Tails.{fronts}
use Rattle.mega_leased_laws.proofs.Notes.{IsRest, step_parts}
use Rattle.mega_leased_laws.proofs.TapeIsMet.{step_met}

-- ---- what a tape tells

abbrev pub beaten_on : List Item → ℕ → GroupId → ℕ
beaten_on [] node group = 0
beaten_on (Serving who epoch ∷ before) node group = cond (who.0 == node) 0 (beaten_on before node group)
beaten_on (Invalid who g n ∷ before) node group = cond (who.0 == node && same_group g group) (max n.0 (beaten_on before node group)) (beaten_on before node group)
beaten_on (_ ∷ before) node group = beaten_on before node group

-- each invalidation behind the epoch that serves is at or below it
module _ (v : ℕ) (e : Epoch) (g : GroupId) (n : Position) where
  abbrev served : Item
  served = Serving (number v) e

  abbrev invalid : Item
  invalid = Invalid (number v) g n

  pub invalid_most : (tape : List Item) → Are IsServing tape → serving_on tape v ≡ Some e → StoodBefore served invalid tape → n.0 ≤ beaten_on tape v g
  invalid_most [] rules is h = absurd h
  invalid_most (Serving who epoch ∷ before) rules is (inl h) = absurd (let clashing = h.0 in cc)
  invalid_most (Serving who epoch ∷ before) rules is (inr h) = by (who.0 == v) refl is (λ k. invalid_most before rules.1 k h)
    where
      once : (w : ℕ) (x : Epoch) → w ≡ v → x ≡ e → (Stands (Serving (number w) x) before → ⊥) → ⊥
      once w x one two never = never (coe 1 0 (i. Stands (Serving (number (one i)) (two i)) before) (stood_first served invalid before h))

      epoch_is : (x : Epoch) → Some x ≡ Some e → x ≡ e
      epoch_is x k = cc

      by : (t : Bool) → (who.0 == v) ≡ t → cond t (Some epoch) (serving_on before v) ≡ Some e → (serving_on before v ≡ Some e → n.0 ≤ beaten_on before v g) → n.0 ≤ cond t 0 (beaten_on before v g)
      by true at k again = absurd (once who.0 epoch (number_is who.0 v at) (epoch_is epoch k) (rules.0).once)
      by false at k again = again k
  invalid_most (Invalid who group position ∷ before) rules is (inl h) = by who.0 group position (ap whom h.0) (ap which h.0) (ap where_at h.0)
    where
      whom : Item → ℕ
      whom (Invalid a b d) = a.0
      whom _ = 0

      which : Item → GroupId
      which (Invalid a b d) = b
      which _ = g

      where_at : Item → ℕ
      where_at (Invalid a b d) = d.0
      where_at _ = 0

      most : (a b : ℕ) → a ≤ max a b
      most a b = omega arith

      here : (w : ℕ) (x : GroupId) → w ≡ v → x ≡ g → (w == v && same_group x g) ≡ true
      here w x one two = ap (λ y. y == v && same_group x g) one ∙ ap (λ y. v == v && same_group y g) two ∙ ap (λ t. t && same_group g g) (number_self v) ∙ same_group_self g

      by : (w : ℕ) (x : GroupId) (p : Position) → w ≡ v → x ≡ g → p.0 ≡ n.0 → n.0 ≤ cond (w == v && same_group x g) (max p.0 (beaten_on before v g)) (beaten_on before v g)
      by w x p one two three = subst (λ t. n.0 ≤ cond t (max p.0 (beaten_on before v g)) (beaten_on before v g)) (sym (here w x one two)) (subst (λ m. m ≤ max p.0 (beaten_on before v g)) three (most p.0 (beaten_on before v g)))
  invalid_most (Invalid who group position ∷ before) rules is (inr h) = by (who.0 == v && same_group group g) (invalid_most before rules.1 is h)
    where
      by : (t : Bool) → n.0 ≤ beaten_on before v g → n.0 ≤ cond t (max position.0 (beaten_on before v g)) (beaten_on before v g)
      by true le = omega (arith, le)
      by false le = le
  invalid_most (Lost who epoch ∷ before) rules is (inl h) = absurd (let clashing = h.0 in cc)
  invalid_most (Lost who epoch ∷ before) rules is (inr h) = by (who.0 == v) is (λ k. invalid_most before rules.1 k h)
    where
      by : (t : Bool) → cond t None (serving_on before v) ≡ Some e → (serving_on before v ≡ Some e → n.0 ≤ beaten_on before v g) → n.0 ≤ beaten_on before v g
      by true k again = cc
      by false k again = again k
  invalid_most (Start who start ∷ before) rules is (inl h) = absurd (let clashing = h.0 in cc)
  invalid_most (Start who start ∷ before) rules is (inr h) = by (who.0 == v) is (λ k. invalid_most before rules.1 k h)
    where
      by : (t : Bool) → cond t None (serving_on before v) ≡ Some e → (serving_on before v ≡ Some e → n.0 ≤ beaten_on before v g) → n.0 ≤ beaten_on before v g
      by true k again = cc
      by false k again = again k
  invalid_most (Crash who ∷ before) rules is (inl h) = absurd (let clashing = h.0 in cc)
  invalid_most (Crash who ∷ before) rules is (inr h) = by (who.0 == v) is (λ k. invalid_most before rules.1 k h)
    where
      by : (t : Bool) → cond t None (serving_on before v) ≡ Some e → (serving_on before v ≡ Some e → n.0 ≤ beaten_on before v g) → n.0 ≤ beaten_on before v g
      by true k again = cc
      by false k again = again k
  invalid_most (_ ∷ before) rules is (inl h) = absurd (let clashing = h.0 in cc)
  invalid_most (_ ∷ before) rules is (inr h) = invalid_most before rules.1 is h

-- ---- what a node met

abbrev pub next_beaten : GroupId → Met → ℕ → ℕ
next_beaten group (Serves epoch) x = 0
next_beaten group (Invalidates g n) x = cond (same_group g group) (max n x) x
next_beaten group _ x = x

abbrev pub beaten_met : List Met → GroupId → ℕ
beaten_met [] group = 0
beaten_met (one ∷ met) group = next_beaten group one (beaten_met met group)

beaten_told : (group : GroupId) (v : ℕ) (c : Cluster) (nodes : ℕ → Node) (tape : List Item) (item : Item) → beaten_on (with_item c nodes tape item) v group ≡ beaten_on (item ∷ tape) v group
beaten_told group v c nodes tape item = with_told (λ t. beaten_on t v group) (λ t. refl) c nodes tape item

beaten_one : (group : GroupId) (c : Cluster) (nodes : ℕ → Node) (me v : ℕ) (note : Met) (tape : List Item)
    → beaten_on (with_items c nodes tape (shown me note)) v group ≡ cond (me == v) (next_beaten group note (beaten_on tape v group)) (beaten_on tape v group)
beaten_one group c nodes me v (Starts start) tape = beaten_told group v c nodes tape (Start (number me) start) ∙ same_if (me == v) (beaten_on tape v group)
beaten_one group c nodes me v Crashes tape = beaten_told group v c nodes tape (Crash (number me)) ∙ same_if (me == v) (beaten_on tape v group)
beaten_one group c nodes me v (Ticks now) tape = beaten_told group v c nodes tape (TickItem (number me) now) ∙ same_if (me == v) (beaten_on tape v group)
beaten_one group c nodes me v (Begins op text) tape = beaten_told group v c nodes tape (BeginItem op text) ∙ same_if (me == v) (beaten_on tape v group)
beaten_one group c nodes me v (Takes message) tape = same_if (me == v) (beaten_on tape v group)
beaten_one group c nodes me v (Sends message) tape = same_if (me == v) (beaten_on tape v group)
beaten_one group c nodes me v (Unsends message) tape = beaten_told group v c nodes tape (Unsent (number me) message) ∙ same_if (me == v) (beaten_on tape v group)
beaten_one group c nodes me v (Grants node epoch) tape = beaten_told group v c nodes tape (Grant me (number node) epoch) ∙ same_if (me == v) (beaten_on tape v group)
beaten_one group c nodes me v (Lapses node epoch) tape = beaten_told group v c nodes tape (Lapse me (number node) epoch) ∙ same_if (me == v) (beaten_on tape v group)
beaten_one group c nodes me v (Counts cell epoch) tape = beaten_told group v c nodes tape (CountsItem (number me) cell epoch) ∙ same_if (me == v) (beaten_on tape v group)
beaten_one group c nodes me v (Forgets cell epoch) tape = beaten_told group v c nodes tape (ForgetsItem (number me) cell epoch) ∙ same_if (me == v) (beaten_on tape v group)
beaten_one group c nodes me v (Serves epoch) tape = beaten_told group v c nodes tape (Serving (number me) epoch)
beaten_one group c nodes me v (Loses epoch) tape = beaten_told group v c nodes tape (Lost (number me) epoch) ∙ same_if (me == v) (beaten_on tape v group)
beaten_one group c nodes me v (Validates g position) tape = beaten_told group v c nodes tape (Valid (number me) g (record { 0 = position })) ∙ same_if (me == v) (beaten_on tape v group)
beaten_one group c nodes me v (Invalidates g position) tape = beaten_told group v c nodes tape (Invalid (number me) g (record { 0 = position })) ∙ cond_as (me == v) (same_group g group) (max position (beaten_on tape v group)) (beaten_on tape v group)
beaten_one group c nodes me v (Decides g position entry) tape = beaten_told group v c nodes tape (Decide (number me) g (record { 0 = position }) entry) ∙ same_if (me == v) (beaten_on tape v group)
beaten_one group c nodes me v (Applies g position) tape = beaten_told group v c nodes tape (Apply (number me) g (record { 0 = position })) ∙ same_if (me == v) (beaten_on tape v group)
beaten_one group c nodes me v (Answers op answer) tape = beaten_told group v c nodes tape (Answer op answer) ∙ same_if (me == v) (beaten_on tape v group)

beaten_own : (group : GroupId) (item : Item) → IsOwn item → (tape : List Item) (v : ℕ) → beaten_on (item ∷ tape) v group ≡ beaten_on tape v group
beaten_own group (Taken j) is tape v = refl
beaten_own group (Dropped j) is tape v = refl
beaten_own group CutItem is tape v = refl
beaten_own group (TickItem node now) is tape v = refl
beaten_own group (BeginItem op text) is tape v = refl
beaten_own group _ is tape v = absurd is

beaten_note : (group : GroupId) (one : Met) → IsOwnNote one → (x : ℕ) → next_beaten group one x ≡ x
beaten_note group (Takes message) is x = refl
beaten_note group (Ticks now) is x = refl
beaten_note group (Begins op text) is x = refl
beaten_note group _ is x = absurd is

pub tells_beaten : (group : GroupId) → TapeFold ℕ (λ tape v. beaten_on tape v group) (next_beaten group)
tells_beaten group = record { unsafe = λ tape v. refl; sends = λ k m tape v. refl; one = beaten_one group; sent_met = λ m x. refl; own = beaten_own group; own_note = beaten_note group }

-- ---- what a coordinator keeps

abbrev pub beaten_at : Cluster → List Met → GroupId → ℕ
beaten_at c met group = beaten (start_of met) c.cells (coordinator_calls c met) group

-- while an epoch serves, it is at least what the tape tells
abbrev pub Beats : Cluster → List Met → Type 0
Beats c met = (e : Epoch) → serves_at c met ≡ Some e → (group : GroupId) → beaten_met met group ≤ beaten_at c met group

abbrev after_beaten : GroupId → List Met → ℕ → ℕ
after_beaten group [] x = x
after_beaten group (one ∷ more) x = after_beaten group more (next_beaten group one x)

onto_beaten : (group : GroupId) (notes met : List Met) → beaten_met (onto notes met) group ≡ after_beaten group notes (beaten_met met group)
onto_beaten group [] met = refl
onto_beaten group (one ∷ notes) met = onto_beaten group notes (one ∷ met)

after_both : (group : GroupId) (xs ys : List Met) (x : ℕ) → after_beaten group (xs ++ ys) x ≡ after_beaten group ys (after_beaten group xs x)
after_both group [] ys x = refl
after_both group (one ∷ xs) ys x = after_both group xs ys (next_beaten group one x)

-- ---- notes that are no call

pub uncalled_serves : (c : Cluster) (one two : List Met) → Uncalled c one two → serves_at c one ≡ serves_at c two
uncalled_serves c one two u = λ i. serving (u.start i) c.cells (u.calls i)

pub uncalled_beaten : (c : Cluster) (one two : List Met) → Uncalled c one two → (group : GroupId) → beaten_at c one group ≡ beaten_at c two group
uncalled_beaten c one two u group = λ i. beaten (u.start i) c.cells (u.calls i) group

lapses_no_call : (those : List ℕ) (f : ℕ → Option Epoch) → Each IsNoCall (flat_map (λ node. lapse_note node (f node)) those)
lapses_no_call [] f = tt
lapses_no_call (node ∷ those) f = each_both IsNoCall (lapse_note node (f node)) (flat_map (λ other. lapse_note other (f other)) those) (one (f node)) (lapses_no_call those f)
  where
    one : (o : Option Epoch) → Each IsNoCall (lapse_note node o)
    one None = tt
    one (Some epoch) = (tt, tt)

pub fronts_no_call : (s : Setting) (node : Node) (event : Event) → Each IsNoCall (fronts s node event)
fronts_no_call s node (Take m) = told_no_call s node.met m.from m.body
fronts_no_call s node (Begin request text) = tt
fronts_no_call s node (Tick now) = each_both IsNoCall (lease_notes s node.met now) (lapse_notes s node.met now)
    (no_call_if (is_full s.cluster s.me) (tick_notes s.cluster node.met now)
    (each_both IsNoCall (forget_notes (epoch_after (start_of node.met) (s.cluster).cells (coordinator_calls s.cluster node.met)) (filter (is_cell_in (tick_told s.cluster node.met now).forgot) (cells s.cluster))) (lost_note (tick_told s.cluster node.met now).lost)
    (forgets_no_call (epoch_after (start_of node.met) (s.cluster).cells (coordinator_calls s.cluster node.met)) (filter (is_cell_in (tick_told s.cluster node.met now).forgot) (cells s.cluster))) (lost_no_call (tick_told s.cluster node.met now).lost)))
    (no_call_if (nat_le s.me (s.cluster).cells) (lapses_at s.cluster s.me node.met now) (lapses_no_call lock_nodes (λ node'. lapse_for (cell_calls s.cluster s.me node.met) now (keep_of s.cluster) node')))

-- ---- the rest of a step

pub record Unchanged (c : Cluster) (one two : List Met) : Type 0 where
  pub serves : serves_at c one ≡ serves_at c two
  pub beaten_is : (group : GroupId) → beaten_at c one group ≡ beaten_at c two group
  pub met : (group : GroupId) → beaten_met one group ≡ beaten_met two group

unchanged_then : (c : Cluster) (a b d : List Met) → Unchanged c a b → Unchanged c b d → Unchanged c a d
unchanged_then c a b d x y = record { serves = x.serves ∙ y.serves; beaten_is = λ g. x.beaten_is g ∙ y.beaten_is g; met = λ g. x.met g ∙ y.met g }

rest_one : (c : Cluster) (one : Met) (met : List Met) → IsRest one → Unchanged c (one ∷ met) met
rest_one c (Decides group position entry) met h = record { serves = refl; beaten_is = λ g. refl; met = λ g. refl }
rest_one c (Applies group position) met h = record { serves = refl; beaten_is = λ g. refl; met = λ g. refl }
rest_one c (Answers op answer) met h = record { serves = refl; beaten_is = λ g. refl; met = λ g. refl }
rest_one c (Validates group position) met h = record { serves = serves_by (serves_at c met); beaten_is = λ g. beaten_by (serves_at c met) g; met = λ g. refl }
  where
    serves_by : (o : Option Epoch) → serving (start_of met) c.cells (validated group position o ++ coordinator_calls c met) ≡ serves_at c met
    serves_by None = refl
    serves_by (Some epoch) = refl

    beaten_by : (o : Option Epoch) (g : GroupId) → beaten (start_of met) c.cells (validated group position o ++ coordinator_calls c met) g ≡ beaten_at c met g
    beaten_by None g = refl
    beaten_by (Some epoch) g = refl
rest_one c _ met h = absurd h

pub rest_unchanged : (c : Cluster) (notes met : List Met) → Each IsRest notes → Unchanged c (onto notes met) met
rest_unchanged c [] met h = record { serves = refl; beaten_is = λ g. refl; met = λ g. refl }
rest_unchanged c (one ∷ notes) met h = unchanged_then c (onto notes (one ∷ met)) (one ∷ met) met (rest_unchanged c notes (one ∷ met) h.1) (rest_one c one met h.0)

pub sends_unchanged : (c : Cluster) (ms : List Message) (met : List Met) → Unchanged c (onto (map Sends ms) met) met
sends_unchanged c [] met = record { serves = refl; beaten_is = λ g. refl; met = λ g. refl }
sends_unchanged c (m ∷ ms) met = unchanged_then c (onto (map Sends ms) (Sends m ∷ met)) (Sends m ∷ met) met (sends_unchanged c ms (Sends m ∷ met)) (record { serves = refl; beaten_is = λ g. refl; met = λ g. refl })

-- behind its first notes a step changes nothing of this
pub step_unchanged : (s : Setting) (node : Node) (event : Event) → Unchanged s.cluster ((step s node event).node).met (onto (fronts s node event) (met_in s node.met event ∷ node.met))
step_unchanged s node event = let parts = step_parts s node event in
    subst (λ met. Unchanged s.cluster met (onto (fronts s node event) (met_in s node.met event ∷ node.met))) (sym (step_met s node event))
    (unchanged_then s.cluster (onto (map Sends (step s node event).sends) (onto (step s node event).notes (met_in s node.met event ∷ node.met))) (onto (step s node event).notes (met_in s node.met event ∷ node.met)) (onto (fronts s node event) (met_in s node.met event ∷ node.met))
    (sends_unchanged s.cluster (step s node event).sends (onto (step s node event).notes (met_in s node.met event ∷ node.met)))
    (subst (λ met. Unchanged s.cluster met (onto (fronts s node event) (met_in s node.met event ∷ node.met))) (sym (ap (λ notes. onto notes (met_in s node.met event ∷ node.met)) parts.is ∙ onto_append (fronts s node event) parts.rest (met_in s node.met event ∷ node.met)))
    (rest_unchanged s.cluster parts.rest (onto (fronts s node event) (met_in s node.met event ∷ node.met)) parts.each)))

-- ---- what a message and a tick change

module _ (s : Setting) (full : is_full s.cluster s.me ≡ true) (met : List Met) (b : Beats s.cluster met) where
  abbrev calls : List Call
  calls = coordinator_calls s.cluster met

  abbrev lease : Lease
  lease = lease_of (start_of met) (s.cluster).cells calls

  -- these calls, with what is then noted
  abbrev Beaten : List Call → List Met → Type 0
  Beaten more notes = (e : Epoch) → serving (start_of met) (s.cluster).cells (more ++ calls) ≡ Some e → (g : GroupId) → after_beaten g notes (beaten_met met g) ≤ beaten (start_of met) (s.cluster).cells (more ++ calls) g

  grant_beats : (cell : ℕ) (epoch : Epoch) (until now : ℕ) (was : Bool) → Beaten (GrantCall cell epoch until now ∷ []) (counts_notes cell epoch was (granted_answer (start_of met) (s.cluster).cells lease cell epoch until now))
  grant_beats cell epoch until now was e is g = by (counts (start_of met) (s.cluster).cells lease cell epoch until now) is
    where
      answer : Bool → Bool → Bool → Counted
      answer t serves most = cond t (cond (not serves && most) ServingAnswer Yes) No

      yes_same : (w : Bool) (x : ℕ) → after_beaten g (cond w [] (Counts cell epoch ∷ [])) x ≡ x
      yes_same true x = refl
      yes_same false x = refl

      then_none : (w : Bool) (x : ℕ) → after_beaten g (cond w [] (Counts cell epoch ∷ []) ++ Serves epoch ∷ []) x ≡ 0
      then_none true x = refl
      then_none false x = refl

      zero_most : (x : ℕ) → 0 ≤ x
      zero_most x = omega arith

      counting : (serves most : Bool) → lease.serves ≡ serves → cond (serves || most) (epoch_of (start_of met) lease) None ≡ Some e → after_beaten g (counts_notes cell epoch was (answer true serves most)) (beaten_met met g) ≤ beaten_at s.cluster met g
      counting true most same k = subst (λ x. x ≤ beaten_at s.cluster met g) (sym (yes_same was (beaten_met met g))) (b e (ap (λ t. cond t (epoch_of (start_of met) lease) None) same ∙ k) g)
      counting false true same k = subst (λ x. x ≤ beaten_at s.cluster met g) (sym (then_none was (beaten_met met g))) (zero_most (beaten_at s.cluster met g))
      counting false false same k = absurd (let none = k in cc)

      by : (t : Bool) → state_of (start_of met) (cond t (after_grant (s.cluster).cells lease cell until) lease) ≡ Some e
          → after_beaten g (counts_notes cell epoch was (answer t lease.serves (is_majority (s.cluster).cells (until_with lease cell until)))) (beaten_met met g) ≤ beaten_at s.cluster met g
      by true k = counting lease.serves (is_majority (s.cluster).cells (until_with lease cell until)) refl k
      by false k = b e k g

  acquire_same : (g : GroupId) (t : Bool) (from : ℕ) (epoch : Epoch) (a : Asked) (x : ℕ) → after_beaten g (cond t (grant_note from epoch a) []) x ≡ x
  acquire_same g false from epoch a x = refl
  acquire_same g true from epoch Granted x = refl
  acquire_same g true from epoch Renewed x = refl
  acquire_same g true from epoch (GreaterHeld greatest) x = refl
  acquire_same g true from epoch (Over greatest) x = refl

  body_beats : (from : ℕ) (body : Body) → Beaten (told_by s.cluster (clock_of met) body) (told_notes s met from body)
  body_beats from (GrantedBody cell epoch clock) = by (is_full s.cluster s.me) full (nat_le cell (s.cluster).cells)
    where
      by : (f : Bool) → f ≡ true → (u : Bool) → Beaten (cond u (GrantCall cell epoch (clock + (s.cluster).lease) (clock_of met) ∷ []) []) (cond (f && u) (grant_notes s.cluster met cell epoch clock) [])
      by true h true = grant_beats cell epoch (clock + (s.cluster).lease) (clock_of met) (is_some (counted_by lease cell))
      by true h false = b
      by false h u = cc
  body_beats from (Past cell epoch greatest) = by (nat_le cell (s.cluster).cells)
    where
      by : (u : Bool) → Beaten (cond u (Passes epoch ∷ []) []) []
      by false = b
      by true = λ e is g. within (past_ends (start_of met) lease epoch) e is g
        where
          within : (t : Bool) (e : Epoch) → state_of (start_of met) (cond t (next_lease lease) lease) ≡ Some e → (g : GroupId) → beaten_met met g ≤ cond t 0 (beaten_at s.cluster met g)
          within true e k g = absurd (let none = k in cc)
          within false e k g = b e k g
  body_beats from (Invalidate op group n) = λ e is g. by e is g (is_full s.cluster s.me) full
    where
      grown : (t : Bool) (x y : ℕ) → x ≤ y → cond t (max n.0 x) x ≤ cond t (max n.0 y) y
      grown true x y le = omega (arith, le)
      grown false x y le = le

      by : (e : Epoch) → serves_at s.cluster met ≡ Some e → (g : GroupId) → (f : Bool) → f ≡ true → after_beaten g (cond f (Invalidates group n.0 ∷ []) []) (beaten_met met g) ≤ cond (is_group group g) (max n.0 (beaten_at s.cluster met g)) (beaten_at s.cluster met g)
      by e is g true h = subst (λ t. cond (same_group group g) (max n.0 (beaten_met met g)) (beaten_met met g) ≤ cond t (max n.0 (beaten_at s.cluster met g)) (beaten_at s.cluster met g)) (sym (is_group_is group g))
          (grown (same_group group g) (beaten_met met g) (beaten_at s.cluster met g) (b e is g))
      by e is g false h = cc
  body_beats from (Acquire cell epoch clock) = λ e is g.
      subst (λ x. x ≤ beaten_at s.cluster met g) (sym (acquire_same g (cell == s.me && nat_le s.me (s.cluster).cells) from epoch (asked_for s.cluster s.me met from epoch) (beaten_met met g))) (b e is g)
  body_beats from _ = b

  forgets_same : (g : GroupId) (o : Option Epoch) (xs : List ℕ) (x : ℕ) → after_beaten g (forget_notes o xs) x ≡ x
  forgets_same g None xs x = refl
  forgets_same g (Some epoch) [] x = refl
  forgets_same g (Some epoch) (cell ∷ xs) x = forgets_same g (Some epoch) xs x

  lost_same : (g : GroupId) (o : Option Epoch) (x : ℕ) → after_beaten g (lost_note o) x ≡ x
  lost_same g None x = refl
  lost_same g (Some epoch) x = refl

  lapses_same : (g : GroupId) (those : List ℕ) (f : ℕ → Option Epoch) (x : ℕ) → after_beaten g (flat_map (λ node. lapse_note node (f node)) those) x ≡ x
  lapses_same g [] f x = refl
  lapses_same g (node ∷ those) f x = after_both g (lapse_note node (f node)) (flat_map (λ other. lapse_note other (f other)) those) x ∙ lapses_same g those f (after_beaten g (lapse_note node (f node)) x) ∙ one (f node)
    where
      one : (o : Option Epoch) → after_beaten g (lapse_note node o) x ≡ x
      one None = refl
      one (Some epoch) = refl

  tick_same : (g : GroupId) (now : ℕ) (x : ℕ) → after_beaten g (lease_notes s met now ++ lapse_notes s met now) x ≡ x
  tick_same g now x = after_both g (lease_notes s met now) (lapse_notes s met now) x ∙ lapses_by (nat_le s.me (s.cluster).cells) (after_beaten g (lease_notes s met now) x) ∙ leases_by (is_full s.cluster s.me)
    where
      leases_by : (f : Bool) → after_beaten g (cond f (tick_notes s.cluster met now) []) x ≡ x
      leases_by true = after_both g (forget_notes (epoch_after (start_of met) (s.cluster).cells calls) (filter (is_cell_in (tick_told s.cluster met now).forgot) (cells s.cluster))) (lost_note (tick_told s.cluster met now).lost) x
          ∙ lost_same g (tick_told s.cluster met now).lost (after_beaten g (forget_notes (epoch_after (start_of met) (s.cluster).cells calls) (filter (is_cell_in (tick_told s.cluster met now).forgot) (cells s.cluster))) x)
          ∙ forgets_same g (epoch_after (start_of met) (s.cluster).cells calls) (filter (is_cell_in (tick_told s.cluster met now).forgot) (cells s.cluster)) x
      leases_by false = refl

      lapses_by : (t : Bool) (y : ℕ) → after_beaten g (cond t (lapses_at s.cluster s.me met now) []) y ≡ y
      lapses_by true y = lapses_same g lock_nodes (λ node. lapse_for (cell_calls s.cluster s.me met) now (keep_of s.cluster) node) y
      lapses_by false y = refl

  tick_beats : (now : ℕ) → Beaten (TickCall now ∷ []) (lease_notes s met now ++ lapse_notes s met now)
  tick_beats now e is g = subst (λ x. x ≤ beaten (start_of met) (s.cluster).cells (TickCall now ∷ calls) g) (sym (tick_same g now (beaten_met met g))) (by (tick_ends (s.cluster).cells lease now) is)
    where
      by : (t : Bool) → state_of (start_of met) (cond t (next_lease lease) (record { count = lease.count; serves = lease.serves; until = map (left now) lease.until })) ≡ Some e → beaten_met met g ≤ cond t 0 (beaten_at s.cluster met g)
      by true k = absurd (let none = k in cc)
      by false k = b e k g

-- behind the first notes of a step
pub fronts_beat : (s : Setting) → is_full s.cluster s.me ≡ true → (node : Node) (event : Event) → Beats s.cluster node.met → Beats s.cluster (onto (fronts s node event) (met_in s node.met event ∷ node.met))
fronts_beat s full node event b e is g =
    let u = uncalled_all s.cluster (fronts s node event) (met_in s node.met event ∷ node.met) (fronts_no_call s node event) in
    coe 1 0 (i. onto_beaten g (fronts s node event) (met_in s node.met event ∷ node.met) i ≤ uncalled_beaten s.cluster (onto (fronts s node event) (met_in s node.met event ∷ node.met)) (met_in s node.met event ∷ node.met) u g i)
    (by event (sym (uncalled_serves s.cluster (onto (fronts s node event) (met_in s node.met event ∷ node.met)) (met_in s node.met event ∷ node.met) u) ∙ is))
  where
    by : (event : Event) → serves_at s.cluster (met_in s node.met event ∷ node.met) ≡ Some e → after_beaten g (fronts s node event) (beaten_met (met_in s node.met event ∷ node.met) g) ≤ beaten_at s.cluster (met_in s node.met event ∷ node.met) g
    by (Tick now) k = tick_beats s full node.met b now e k g
    by (Take m) k = body_beats s full node.met b m.from m.body e k g
    by (Begin request text) k = b e k g

pub step_beats : (s : Setting) → is_full s.cluster s.me ≡ true → (node : Node) (event : Event) → Beats s.cluster node.met → Beats s.cluster ((step s node event).node).met
step_beats s full node event b e is g = let u = step_unchanged s node event in
    coe 1 0 (i. u.met g i ≤ u.beaten_is g i) (fronts_beat s full node event b e (sym u.serves ∙ is) g)

-- ---- a node that has no coordinator serves nothing

abbrev pub IsIdle : Cluster → List Met → Type 0
IsIdle c met = (lease_of (start_of met) c.cells (coordinator_calls c met)).serves ≡ false

pub idle_none : (c : Cluster) (met : List Met) → IsIdle c met → serves_at c met ≡ None
idle_none c met idle = ap (λ t. cond t (epoch_of (start_of met) (lease_of (start_of met) c.cells (coordinator_calls c met))) None) idle

-- where no grant is taken
abbrev pub NoGrantBody : Body → Type 0
NoGrantBody (GrantedBody cell epoch clock) = ⊥
NoGrantBody _ = Unit {0}

abbrev pub NoGrant : Event → Type 0
NoGrant (Take m) = NoGrantBody m.body
NoGrant _ = Unit {0}

idle_next : (t : Bool) (one : Lease) (other : Lease) → one.serves ≡ false → other.serves ≡ false → (cond t one other).serves ≡ false
idle_next true one other h k = h
idle_next false one other h k = k

idle_rest : (c : Cluster) (notes met : List Met) → Each IsRest notes → IsIdle c met → IsIdle c (onto notes met)
idle_rest c [] met h idle = idle
idle_rest c (Decides group position entry ∷ notes) met h idle = idle_rest c notes (Decides group position entry ∷ met) h.1 idle
idle_rest c (Applies group position ∷ notes) met h idle = idle_rest c notes (Applies group position ∷ met) h.1 idle
idle_rest c (Answers op answer ∷ notes) met h idle = idle_rest c notes (Answers op answer ∷ met) h.1 idle
idle_rest c (Validates group position ∷ notes) met h idle = idle_rest c notes (Validates group position ∷ met) h.1 (by (serves_at c met))
  where
    by : (o : Option Epoch) → (lease_of (start_of met) c.cells (validated group position o ++ coordinator_calls c met)).serves ≡ false
    by None = idle
    by (Some epoch) = idle
idle_rest c (_ ∷ notes) met h idle = absurd h.0

idle_sends : (c : Cluster) (ms : List Message) (met : List Met) → IsIdle c met → IsIdle c (onto (map Sends ms) met)
idle_sends c [] met idle = idle
idle_sends c (m ∷ ms) met idle = idle_sends c ms (Sends m ∷ met) idle

pub own_idle : (s : Setting) (met : List Met) (event : Event) → NoGrant event → IsIdle s.cluster met → IsIdle s.cluster (met_in s met event ∷ met)
own_idle s met (Begin request text) none idle = idle
own_idle s met (Tick now) none idle = idle_next (tick_ends (s.cluster).cells lease now) (next_lease lease) (record { count = lease.count; serves = lease.serves; until = map (left now) lease.until }) refl idle
  where
    lease : Lease
    lease = lease_of (start_of met) (s.cluster).cells (coordinator_calls s.cluster met)
own_idle s met (Take m) none idle = by m.body none
  where
    lease : Lease
    lease = lease_of (start_of met) (s.cluster).cells (coordinator_calls s.cluster met)

    by : (body : Body) → NoGrantBody body → (lease_of (start_of met) (s.cluster).cells (told_by s.cluster (clock_of met) body ++ coordinator_calls s.cluster met)).serves ≡ false
    by (GrantedBody cell epoch clock) k = absurd k
    by (Past cell epoch greatest) k = within (nat_le cell (s.cluster).cells)
      where
        within : (u : Bool) → (lease_of (start_of met) (s.cluster).cells (cond u (Passes epoch ∷ []) [] ++ coordinator_calls s.cluster met)).serves ≡ false
        within true = idle_next (past_ends (start_of met) lease epoch) (next_lease lease) lease refl idle
        within false = idle
    by (Invalidate op group n) k = idle
    by _ k = idle

pub uncalled_idle : (c : Cluster) (one two : List Met) → Uncalled c one two → IsIdle c two → IsIdle c one
uncalled_idle c one two u h = (λ i. (lease_of (u.start i) c.cells (u.calls i)).serves) ∙ h

pub step_idle : (s : Setting) (node : Node) (event : Event) → NoGrant event → IsIdle s.cluster node.met → IsIdle s.cluster ((step s node event).node).met
step_idle s node event none idle = let parts = step_parts s node event in let u = uncalled_all s.cluster (fronts s node event) (met_in s node.met event ∷ node.met) (fronts_no_call s node event) in
    subst (IsIdle s.cluster) (sym (step_met s node event)) (idle_sends s.cluster (step s node event).sends (onto (step s node event).notes (met_in s node.met event ∷ node.met))
    (subst (IsIdle s.cluster) (sym (ap (λ notes. onto notes (met_in s node.met event ∷ node.met)) parts.is ∙ onto_append (fronts s node event) parts.rest (met_in s node.met event ∷ node.met)))
    (idle_rest s.cluster parts.rest (onto (fronts s node event) (met_in s node.met event ∷ node.met)) parts.each
    (uncalled_idle s.cluster (onto (fronts s node event) (met_in s node.met event ∷ node.met)) (met_in s node.met event ∷ node.met) u (own_idle s node.met event none idle)))))
