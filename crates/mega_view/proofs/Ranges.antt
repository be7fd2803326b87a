-- Keys that begin with these bytes and this one stand between these with it and these with the next.
use Rattle.std.proofs.Common.{◌≡◌, ℕ, ◌+◌, List, [], ◌∷◌, ◌++◌, refl, sym, ap, ◌∙◌, arith}
use Rattle.std.specs.declared.cmp.Ordering.{Ordering}
use Rattle.std.specs.declared.cmp.Ordering.TheVariants.{Less, Equal, Greater}
use Rattle.std.specs.Ordering.{nat_cmp, ordering_then}
use Rattle.std.specs.Cmp.{nat_cmp_is}
use Rattle.std.specs.Cmp.Lexicographic.{slice_cmp}
use Rattle.std.proofs.lemmas.Bool.Decides.{nat_tests}
use Rattle.mega_disk.specs.VersionMaps.{IsWithin}

same_byte : (b : ℕ) → nat_cmp b b ≡ Equal
same_byte b = sym (nat_cmp_is b b Equal refl)

front_cmp : (front a b : List ℕ) → slice_cmp nat_cmp (front ++ a) (front ++ b) ≡ slice_cmp nat_cmp a b
front_cmp [] a b = refl
front_cmp (x ∷ front) a b = ap (λ (o : Ordering). ordering_then o (slice_cmp nat_cmp (front ++ a) (front ++ b))) (same_byte x) ∙ front_cmp front a b

not_less : (n : ℕ) (rest : List ℕ) → slice_cmp nat_cmp (n ∷ rest) (n ∷ []) ≡ Less → ⊥
not_less n rest h = by rest (sym (ap (λ (o : Ordering). ordering_then o (slice_cmp nat_cmp rest [])) (same_byte n)) ∙ h)
  where
    by : (rest : List ℕ) → slice_cmp nat_cmp rest [] ≡ Less → ⊥
    by [] g = let no : Equal ≡ Less = g in cc
    by (x ∷ rest) g = let no : Greater ≡ Less = g in cc

next_less : (n : ℕ) (rest : List ℕ) → slice_cmp nat_cmp (n ∷ rest) ((n + 1) ∷ []) ≡ Less
next_less n rest = ap (λ (o : Ordering). ordering_then o (slice_cmp nat_cmp rest [])) less
  where
    less : nat_cmp n (n + 1) ≡ Less
    less = grind (arith, nat_tests)

pub in_range : (front rest key : List ℕ) (n : ℕ) → key ≡ front ++ n ∷ rest → IsWithin (front ++ n ∷ []) (front ++ (n + 1) ∷ []) key
in_range front rest key n is = (
  λ less. not_less n rest (sym (front_cmp front (n ∷ rest) (n ∷ [])) ∙ ap (λ (k : List ℕ). slice_cmp nat_cmp k (front ++ n ∷ [])) (sym is) ∙ less),
  ap (λ (k : List ℕ). slice_cmp nat_cmp k (front ++ (n + 1) ∷ [])) is ∙ front_cmp front (n ∷ rest) ((n + 1) ∷ []) ∙ next_less n rest,
)
