-- Keys that begin alike stand together.
use Rattle.std.proofs.Common.{◌≡◌, ◌∙◌, ap, sym, refl, ℕ, true, false, List, [], ◌∷◌, arith}
use Rattle.std.specs.Prelude.{nat_eq}
use Rattle.std.specs.declared.cmp.Ordering.TheVariants.{Less, Equal, Greater}
use Rattle.std.specs.Ordering.{is_le, nat_cmp, ordering_then}
use Rattle.std.proofs.lemmas.Bool.Decides.{nat_tests}
use Rattle.std.proofs.lemmas.Bool.{and_parts, and_from}
use Rattle.mega_row_writes.specs.Rows.{key_cmp}
use Rattle.mega_index.specs.Wanted.{begins}
use Rattle.mega_index.proofs.Ordered.{by_order}

nat_same : (f x : ℕ) → nat_eq f x ≡ true → nat_cmp f x ≡ Equal
nat_same f x h = grind (arith, nat_tests)

nat_alike : (f x : ℕ) → nat_cmp f x ≡ Equal → nat_eq f x ≡ true
nat_alike f x h = grind (arith, nat_tests)

pub at_or_after : (front k : List ℕ) → begins front k ≡ true → is_le (key_cmp front k) ≡ true
at_or_after [] [] h = refl
at_or_after [] (x ∷ xs) h = refl
at_or_after (f ∷ fs) [] h = cc
at_or_after (f ∷ fs) (x ∷ xs) h =
    let parts : (nat_eq f x ≡ true) × (begins fs xs ≡ true) = and_parts (nat_eq f x) (begins fs xs) h in
    ap (λ o. is_le (ordering_then o (key_cmp fs xs))) (nat_same f x parts.0) ∙ at_or_after fs xs parts.1

pub between : (front k q : List ℕ) → begins front q ≡ true → is_le (key_cmp front k) ≡ true → key_cmp k q ≡ Less → begins front k ≡ true
between [] k q h after before = refl
between (f ∷ fs) k [] h after before = cc
between (f ∷ fs) [] (x ∷ xs) h after before = cc
between (f ∷ fs) (y ∷ ys) (x ∷ xs) h after before =
    let parts : (nat_eq f x ≡ true) × (begins fs xs ≡ true) = and_parts (nat_eq f x) (begins fs xs) h in
    let same : nat_cmp f x ≡ Equal = nat_same f x parts.0 in
    by_order (nat_cmp f y) _
    (λ less. absurd (later y x ys xs (nat_later f y x less parts.0) before))
    (λ equal. and_from (nat_eq f y) (begins fs ys) (nat_alike f y equal)
    (between fs ys xs parts.1 (sym (ap (λ o. is_le (ordering_then o (key_cmp fs ys))) equal) ∙ after)
    (sym (ap (λ o. ordering_then o (key_cmp ys xs)) (nat_level f y x equal parts.0)) ∙ before)))
    (λ greater. absurd (never (sym (ap (λ o. is_le (ordering_then o (key_cmp fs ys))) greater) ∙ after)))
  where
    never : false ≡ true → ⊥
    never e = cc

    nat_later : (f y x : ℕ) → nat_cmp f y ≡ Less → nat_eq f x ≡ true → nat_cmp y x ≡ Greater
    nat_later f y x less same = grind (arith, nat_tests)

    nat_level : (f y x : ℕ) → nat_cmp f y ≡ Equal → nat_eq f x ≡ true → nat_cmp y x ≡ Equal
    nat_level f y x equal same = grind (arith, nat_tests)

    later : (y x : ℕ) (ys xs : List ℕ) → nat_cmp y x ≡ Greater → ordering_then (nat_cmp y x) (key_cmp ys xs) ≡ Less → ⊥
    later y x ys xs greater less = differ (sym (ap (λ o. ordering_then o (key_cmp ys xs)) greater) ∙ less)
      where
        differ : Greater ≡ Less → ⊥
        differ e = cc
