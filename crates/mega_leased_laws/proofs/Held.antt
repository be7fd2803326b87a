-- As long as leases are safe an epoch that serves is held, and so what a node has of a group that is valid there covers each decision.
use Rattle.std.proofs.Common.{◌≡◌, ◌⊎◌, inl, inr, ℕ, zero, suc, ◌+◌, nat_le, ◌==◌, ◌≤◌, ◌<◌, Bool, true, false, cond, List, [], ◌∷◌, filter, length, Some, refl, sym, ap, ◌∙◌, subst, arith}
use Rattle.std.specs.List.{range_with_len}
use Rattle.std.proofs.lemmas.Bool.Decides.{nat_tests}
use Rattle.std.proofs.lemmas.Bool.{and_parts}
use Rattle.mega_base.specs.declared.names.Epoch.{Epoch}
use Rattle.mega_base.specs.declared.names.GroupId.{GroupId}
use Rattle.mega_base.specs.declared.names.NodeId.{NodeId}
use Rattle.mega_base.specs.declared.names.Position.{Position}
use Rattle.mega_cluster.specs.declared.cluster.Cluster.{Cluster}
use Rattle.mega_coordinator.specs.Laws.{ValidatedAbove}
use Rattle.mega_coordinator.proofs.Validity.{validated_above}
use Rattle.mega_entry.specs.declared.content.Content.{Content}
use Rattle.mega_handler.specs.Named.{Meanings}
use Rattle.mega_lease_laws.specs.of_run_laws.of_tape_laws.of_promises.of_transcript.declared.item.Item.{Item}
use Rattle.mega_lease_laws.specs.of_run_laws.of_tape_laws.of_promises.of_transcript.declared.item.Item.TheVariants.{Decide}
use Rattle.mega_lease_laws.specs.of_run_laws.of_tape_laws.of_promises.Messages.{is_unsafe}
use Rattle.mega_lease_laws.specs.of_run_laws.of_tape_laws.of_promises.Promises.{Stands}
use Rattle.mega_lease_laws.specs.of_run_laws.of_tape_laws.of_promises.Runs.{Happening, IsRun, Standing, goes_on, has_lapsed, opening}
use Rattle.mega_lease_laws.specs.of_run_laws.of_tape_laws.of_promises.of_rules.Clock.{is_up, start_of}
use Rattle.mega_lease_laws.specs.of_run_laws.of_tape_laws.of_promises.of_rules.Coordinators.{coordinator_calls, serves_at, valid_at}
use Rattle.mega_lease_laws.specs.of_run_laws.of_tape_laws.of_promises.of_rules.Members.{full_nodes, is_full, nodes}
use Rattle.mega_lease_laws.specs.of_run_laws.of_tape_laws.Places.{In}
use Rattle.mega_lease_laws.proofs.of_run_laws.Runs.{run_keeps, run_polls}
use Rattle.mega_valid_laws.proofs.of_settled_laws.Behind.{run_decided}
use Rattle.mega_valid_laws.specs.Leases.{HasAtLeast, IsHeld, counted_on, serving_on}
use Rattle.mega_valid_laws.specs.Showing.{serving_met}
use Rattle.mega_valid_laws.proofs.Epochs.{serving_stands}
use Rattle.mega_valid_laws.proofs.Joint.{valid_has}
use Rattle.mega_valid_laws.proofs.Shows.{run_serves, run_valid}
use Rattle.mega_valid_laws.proofs.Walked.{AgreesAt}
use Rattle.mega_leased_laws.proofs.Forms.{both_keep}
use Rattle.mega_leased_laws.proofs.Epochs.{served_at, up_of}
use Rattle.mega_leased_laws.proofs.EpochReached.{served_state}
use Rattle.mega_leased_laws.proofs.Counting.{present_at, serving_majority}
use Rattle.mega_leased_laws.proofs.Leased.{run_leased}
use Rattle.mega_leased_laws.proofs.Safety.{Saving, lapse_stands, nothing_saving, saving_holds}
use Rattle.mega_leased_laws.proofs.Validating.{Ruled, nothing_ruled, ruled_keeps}
use Rattle.mega_lease_laws.proofs.of_run_laws.of_tape_laws.Ballots.{clash}

held_then : (c : Cluster) → c.cells ≤ 5 → (now : Standing) → Ruled c now → Saving c now.tape now.node now.owed → is_unsafe now.tape ≡ false → (v : ℕ) (e : Epoch) → serving_on now.tape v ≡ Some e → IsHeld c now.tape v e
held_then c few now p q un v e is = record {
  serves = is;
  counts = serving_majority c (now.node v).met e (λ cell. counted_on now.tape v cell e) few serves (λ i. q.counted (suc i) e v ∙ q.counts v full up e present i);
  safe = λ cell counted stands. clash (has_lapsed (now.node cell).met v e) (sym (q.lapsed v e cell) ∙ lapse_stands v e cell now.tape stands)
      (q.safe un v full up e present cell (sym (q.counted cell e v) ∙ counted));
}
  where
    met_serves : serving_met (now.node v).met ≡ Some e
    met_serves = sym (((p.0).0).serving v) ∙ is

    full : is_full c v ≡ true
    full = (served_at c now (p.0).0 p.1 v e (serving_stands c v e now.tape is)).full

    up : is_up (now.node v).met ≡ true
    up = up_of c now (p.0).0 p.1 v e met_serves

    agrees : AgreesAt c (now.node v).met
    agrees = ((p.0).0).agrees v full up

    serves : serves_at c (now.node v).met ≡ Some e
    serves = sym agrees.serves ∙ met_serves

    present : present_at c (now.node v).met ≡ Some e
    present = (served_state _ (present_at c (now.node v).met) e serves).1

abbrev stands_then : (c : Cluster) (first : Meanings) (events : List Happening) (tape : List Item) → IsRun c first events tape → Standing
stands_then c first events tape run = goes_on c run.cuts (opening c first) events

pub run_held : (c : Cluster) (first : Meanings) (events : List Happening) (tape : List Item) → length c.nodes ≤ 9 → c.cells ≤ 5 → IsRun c first events tape → is_unsafe tape ≡ false
    → (node : ℕ) (epoch : Epoch) → serving_on tape node ≡ Some epoch → IsHeld c tape node epoch
run_held c first events tape few five run un node epoch is = subst (λ t. IsHeld c t node epoch) (sym run.tape_is)
    (held_then c five (stands_then c first events tape run) both.0 both.1 (ap is_unsafe (sym run.tape_is) ∙ un) node epoch (ap (λ t. serving_on t node) (sym run.tape_is) ∙ is))
  where
    both : Ruled c (stands_then c first events tape run) × Saving c (stands_then c first events tape run).tape (stands_then c first events tape run).node (stands_then c first events tape run).owed
    both = run_keeps c (λ now. Ruled c now × Saving c now.tape now.node now.owed) (both_keep c (Ruled c) (ruled_keeps c few) (Saving c) (saving_holds c five)) first events tape run (nothing_ruled c, nothing_saving c)

-- ---- what a node has of a valid group

in_filter : (f : ℕ → Bool) (x : ℕ) (xs : List ℕ) → f x ≡ true → In x xs → In x (filter f xs)
in_filter f x [] h i = i
in_filter f x (y ∷ xs) h (inl same) = by (f y) (ap f same ∙ h)
  where
    by : (t : Bool) → t ≡ true → In x (cond t (y ∷ filter f xs) (filter f xs))
    by true k = inl same
    by false k = cc
in_filter f x (y ∷ xs) h (inr i) = by (f y) (in_filter f x xs h i)
  where
    by : (t : Bool) → In x (filter f xs) → In x (cond t (y ∷ filter f xs) (filter f xs))
    by true k = inr k
    by false k = k

in_range : (x base n : ℕ) → base ≤ x → x < base + n → In x (range_with_len base n)
in_range x base zero low high = absurd (omega (arith, low, high))
in_range x base (suc n) low high = by (base == x) refl (λ next. in_range x (base + 1) n next (omega (arith, high)))
  where
    is_number : (a b : ℕ) → (a == b) ≡ true → a ≡ b
    is_number a b k = grind (arith, nat_tests)

    apart : (a b : ℕ) → (a == b) ≡ false → a ≤ b → a + 1 ≤ b
    apart a b k le = grind (arith, nat_tests)

    by : (t : Bool) → (base == x) ≡ t → (base + 1 ≤ x → In x (range_with_len (base + 1) n)) → (base ≡ x) ⊎ In x (range_with_len (base + 1) n)
    by true at again = inl (is_number base x at)
    by false at again = inr (again (apart base x at low))

pub full_in : (c : Cluster) (node : ℕ) → is_full c node ≡ true → In node (full_nodes c)
full_in c node full = let parts = and_parts _ _ (and_parts _ _ full).0 in in_filter (is_full c) node (nodes c) full (in_range node 1 (length c.nodes) (low node parts.0) (high node (length c.nodes) parts.1))
  where
    low : (a : ℕ) → nat_le 1 a ≡ true → 1 ≤ a
    low a h = grind (arith, nat_tests)

    high : (a b : ℕ) → nat_le a b ≡ true → a < 1 + b
    high a b h = grind (arith, nat_tests)

pub run_covers : (c : Cluster) (first : Meanings) (events : List Happening) (tape : List Item) → length c.nodes ≤ 9 → c.cells ≤ 5 → (run : IsRun c first events tape) → is_unsafe tape ≡ false
    → (node : ℕ) → is_full c node ≡ true → is_up ((goes_on c run.cuts (opening c first) events).node node).met ≡ true
    → (group : GroupId) → valid_at c ((goes_on c run.cuts (opening c first) events).node node).met group ≡ true
    → (n : Position) (entry : Content) (other : NodeId) → 0 < n.0 → Stands (Decide other group n entry) tape → HasAtLeast tape node group n
run_covers c first events tape few five run un node full up group valid n entry other above stands =
    valid_has c tape (run_leased c first events tape few run) (run_polls c first events tape run) node group n entry found.epoch (full_in c node full) above
    (run_decided c first events tape run other (record { group = group; position = n }) entry stands) (run_valid c first events tape run node full up group ∙ valid)
    (run_held c first events tape few five run un node found.epoch (run_serves c first events tape run node full up ∙ found.serves))
  where
    found : ValidatedAbove (start_of ((goes_on c run.cuts (opening c first) events).node node).met) c.cells (coordinator_calls c ((goes_on c run.cuts (opening c first) events).node node).met) group
    found = validated_above (start_of ((goes_on c run.cuts (opening c first) events).node node).met) c.cells (coordinator_calls c ((goes_on c run.cuts (opening c first) events).node node).met) group valid
