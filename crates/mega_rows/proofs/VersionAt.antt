-- The version that a read sees, found by the positions at which versions stand.
use Rattle.std.proofs.Common.{◌≡◌, ℕ, zero, suc, ◌<◌, ◌≤◌, ◌==◌, List, [], ◌∷◌, ◌++◌, Bool, true, false, refl, sym, ap, subst, ◌∙◌, arith}
use Rattle.std.specs.Prelude.{Option, Some, None, IsSome, is_some}
use Rattle.std.specs.Ordering.{nat_cmp, is_gt, is_lt}
use Rattle.std.specs.declared.ops.Bound.TheVariants.{Included, Unbounded}
use Rattle.std.specs.BTreeMap.{BTreeMap, get}
use Rattle.std.specs.BTreeMap.Range.{IsRangeOf}
use Rattle.std.proofs.lemmas.Bool.Decides.{nat_tests}
use Rattle.std.proofs.lemmas.Map.Keys.{le_from_not_gt, ge_from_not_lt}
use Rattle.mega_base.specs.declared.values.Row.{Row}
use Rattle.mega_disk.specs.VersionMaps.{or_else, version_at}
use Rattle.mega_rows.specs.Trims.{IsFloor}

pub none_through : (f : ℕ → Option (Option Row)) (p : ℕ) → ((q : ℕ) → q ≤ p → f q ≡ None) → version_at f p ≡ None
unfolding version_at
none_through f zero none = none zero (omega arith)
none_through f (suc p) none = ap (λ v. or_else v (version_at f p)) (none (suc p) (omega arith)) ∙ none_through f p (λ q le. none q (omega arith))

pub last_through : (f : ℕ → Option (Option Row)) (p q : ℕ) (v : Option Row) → q ≤ p → f q ≡ Some v → ((r : ℕ) → q < r → r ≤ p → f r ≡ None) → version_at f p ≡ Some v
unfolding version_at
last_through f zero q v le here none = let same : q ≡ 0 = omega arith in subst (λ k. f k ≡ Some v) same here
last_through f (suc p) q v le here none = go (q == suc p) refl (λ below. last_through f p q v below here (λ r more less. none r more (omega arith)))
  where
    go : (test : Bool) → (q == suc p) ≡ test → (q ≤ p → version_at f p ≡ Some v) → or_else (f (suc p)) (version_at f p) ≡ Some v
    go true t rest = let same : q ≡ suc p = grind (arith, nat_tests) in ap (λ w. or_else w (version_at f p)) (subst (λ k. f k ≡ Some v) same here)
    go false t rest =
        let below : q ≤ p = grind (arith, nat_tests) in
        ap (λ w. or_else w (version_at f p)) (none (suc p) (omega arith) (omega arith)) ∙ rest below

not_gt : (a b : ℕ) → a ≤ b → is_gt (nat_cmp a b) ≡ false
not_gt a b le = grind (arith, nat_tests)

no_later : (o : Option (Option Row)) (p r : ℕ) → p < r → (IsSome o → is_lt (nat_cmp p r) ≡ false) → o ≡ None
no_later None p r more bound = refl
no_later (Some v) p r more bound = let back = ge_from_not_lt p r (bound refl) in absurd (omega arith)

-- what stands in a range up to a position tells what a read there sees
pub seen_none : (line : BTreeMap ℕ (Option Row)) (at : ℕ) (found : List (ℕ × Option Row)) → IsRangeOf nat_cmp Unbounded (Included at) line found → found ≡ [] → None ≡ version_at (get nat_cmp line) at
seen_none line at found range empty = sym (none_through (get nat_cmp line) at (λ q le. range.5 empty q (tt, not_gt q at le)))

pub seen_last : (line : BTreeMap ℕ (Option Row)) (at : ℕ) (found front : List (ℕ × Option Row)) (position : ℕ) (v : Option Row) → IsRangeOf nat_cmp Unbounded (Included at) line found → found ≡ front ++ (position, v) ∷ [] → Some v ≡ version_at (get nat_cmp line) at
seen_last line at found front position v range is = let last = range.3 (position, v) front is in
    sym (last_through (get nat_cmp line) at position v (le_from_not_gt position at last.0.1) last.1 (λ r more less. no_later (get nat_cmp line r) position r more (range.4 (position, v) front is r (tt, not_gt r at less))))

pub range_last : (line : BTreeMap ℕ (Option Row)) (at : ℕ) (found front : List (ℕ × Option Row)) (position : ℕ) (v : Option Row) → IsRangeOf nat_cmp Unbounded (Included at) line found → found ≡ front ++ (position, v) ∷ [] → IsFloor (get nat_cmp line) at position
range_last line at found front position v range is = let last = range.3 (position, v) front is in record {
  within = le_from_not_gt position at last.0.1;
  stands = ap is_some last.1;
  none_later = λ r more less. no_later (get nat_cmp line r) position r more (range.4 (position, v) front is r (tt, not_gt r at less));
}
