-- How far two texts are the same.
use Rattle.std.proofs.Common.{◌≡◌, ℕ, suc, ◌+◌, ◌<◌, List, [], ◌∷◌, length, drop, get_or, cond, true, false, min, refl, ap, ◌∙◌, arith, add-one}
use Rattle.std.specs.Prelude.{nat_eq, ◌≢◌}
use Rattle.std.specs.List.{common_prefix_len}
use Rattle.std.proofs.Math.Seq.{drop-cons}
use Rattle.std.proofs.lemmas.Bool.Decides.{nat_tests}
use Rattle.std.proofs.Math.ListN.{drop_of_length-le}
use Rattle.std.proofs.lemmas.Bool.{cases_lt}
use Rattle.std.proofs.Common.{inl, inr}

step : (xs ys : List ℕ) (n : ℕ) → n < length xs → n < length ys
    → common_prefix_len nat_eq (drop n xs) (drop n ys) ≡ cond (nat_eq (get_or xs n 0) (get_or ys n 0)) (1 + common_prefix_len nat_eq (drop (suc n) xs) (drop (suc n) ys)) 0
step xs ys n h k = ap (λ l. common_prefix_len nat_eq l (drop n ys)) (drop-cons xs n 0 h) ∙ ap (common_prefix_len nat_eq (get_or xs n 0 ∷ drop (suc n) xs)) (drop-cons ys n 0 k)

differs : (a b : ℕ) → a ≢ b → nat_eq a b ≡ false
differs a b h = grind (arith, nat_tests)

same : (a b : ℕ) → a ≡ b → nat_eq a b ≡ true
same a b h = grind (arith, nat_tests)

-- where the bytes at n differ, n bytes are the same
pub differs_there : (xs ys : List ℕ) (n : ℕ) → common_prefix_len nat_eq xs ys ≡ n + common_prefix_len nat_eq (drop n xs) (drop n ys)
    → n < length xs → n < length ys → get_or xs n 0 ≢ get_or ys n 0 → n ≡ common_prefix_len nat_eq xs ys
differs_there xs ys n e h k other =
    let none = step xs ys n h k ∙ ap (λ t. cond t (1 + common_prefix_len nat_eq (drop (suc n) xs) (drop (suc n) ys)) 0) (differs (get_or xs n 0) (get_or ys n 0) other) in
    omega (arith, e, none)

pub same_there : (xs ys : List ℕ) (n : ℕ) → common_prefix_len nat_eq xs ys ≡ n + common_prefix_len nat_eq (drop n xs) (drop n ys)
    → n < length xs → n < length ys → get_or xs n 0 ≡ get_or ys n 0 → common_prefix_len nat_eq xs ys ≡ n + 1 + common_prefix_len nat_eq (drop (n + 1) xs) (drop (n + 1) ys)
same_there xs ys n e h k equal =
    let more = step xs ys n h k ∙ ap (λ t. cond t (1 + common_prefix_len nat_eq (drop (suc n) xs) (drop (suc n) ys)) 0) (same (get_or xs n 0) (get_or ys n 0) equal) in
    let one : common_prefix_len nat_eq (drop (n + 1) xs) (drop (n + 1) ys) ≡ common_prefix_len nat_eq (drop (suc n) xs) (drop (suc n) ys) = ap (λ m. common_prefix_len nat_eq (drop m xs) (drop m ys)) (add-one n) in
    omega (arith, e, more, one)

right_end : (xs : List ℕ) → common_prefix_len nat_eq xs [] ≡ 0
right_end [] = refl
right_end (x ∷ xs) = refl

pub at_end : (xs ys : List ℕ) (n : ℕ) → common_prefix_len nat_eq xs ys ≡ n + common_prefix_len nat_eq (drop n xs) (drop n ys)
    → n ≡ min (length xs) (length ys) → n ≡ common_prefix_len nat_eq xs ys
at_end xs ys n e low = elim (cases_lt n (length xs)) [
  | inl h ↦ omega (arith, e, ap (common_prefix_len nat_eq (drop n xs)) (drop_of_length-le ys {i = n} (omega arith)) ∙ right_end (drop n xs))
  | inr h ↦ omega (arith, e, ap (λ l. common_prefix_len nat_eq l (drop n ys)) (drop_of_length-le xs {i = n} h))
]
