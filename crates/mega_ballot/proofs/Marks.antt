-- A mark for each bit.
use Rattle.std.proofs.Common.{◌≡◌, ℕ, zero, suc, ◌+◌, ◌*◌, ◌%◌, ◌^◌, ◌<◌, ◌≤◌, Bool, true, false, List, length, refl, sym, ◌∙◌, ap, subst, inl, inr, arith, get_or, set, get_or-set_other, get_or-set_same}
use Rattle.std.specs.Prelude.{◌↔◌, ◌≢◌, not, nat_eq, bit_and}
use Rattle.std.specs.Int.{IsBitSet}
use Rattle.std.proofs.Math.Nat.{mod-eq_of_lt}
use Rattle.std.proofs.lemmas.Nat.{pow_below}
use Rattle.std.proofs.lemmas.Bool.Decides.{nat_tests}
use Rattle.std.proofs.lemmas.Bool.{cases_lt}

test_is : (x : ℕ) → (not (nat_eq x 0) ≡ true) ↔ (x ≢ 0)
test_is zero = (λ h e. absurd (cc), λ h. absurd (h refl))
test_is (suc x) = (λ h e. omega arith, λ h. let d : suc x ≢ 0 = omega arith in grind (arith, nat_tests))

pub bit_test : (m k : ℕ) → k < 16 → (not (nat_eq (bit_and m (1 * 2 ^ k % 65536)) 0) ≡ true) ↔ IsBitSet m k
bit_test m k h =
    let small : 2 ^ k < 65536 = pow_below k 16 h in
    let same : 1 * 2 ^ k % 65536 ≡ 2 ^ k = ap (λ n. n % 65536) (omega arith) ∙ mod-eq_of_lt small in
    rw same (test_is (bit_and m (2 ^ k)))

-- one mark more
pub marks_more : (m k : ℕ) (marks : List Bool) (mark : Bool) → k < length marks → ((j : ℕ) → j < k → (get_or marks j false ≡ true) ↔ IsBitSet m j) → (mark ≡ true) ↔ IsBitSet m k
    → (j : ℕ) → j < k + 1 → (get_or (set marks k mark) j false ≡ true) ↔ IsBitSet m j
marks_more m k marks mark within before here j h = elim (cases_lt j k) [
  | inl l ↦ let apart : j ≢ k = omega arith in rw get_or-set_other (before j l)
  | inr l ↦ let e : j ≡ k = omega arith in rw e (rw get_or-set_same here)
]
