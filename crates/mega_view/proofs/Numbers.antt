-- A number through a bound is below it or is it.
use Rattle.std.proofs.Common.{◌≡◌, ◌⊎◌, inl, inr, ℕ, ◌+◌, ◌≤◌, Bool, true, false, nat_le, refl, arith}
use Rattle.std.proofs.lemmas.Bool.Decides.{nat_tests}

pub less_or_same : (count m : ℕ) → m ≤ 1 + count → (m ≤ count) ⊎ (m ≡ 1 + count)
less_or_same count m le = by (nat_le m count) refl
  where
    by : (t : Bool) → nat_le m count ≡ t → (m ≤ count) ⊎ (m ≡ 1 + count)
    by true is = inl (low is)
      where
        low : nat_le m count ≡ true → m ≤ count
        low is = grind (arith, nat_tests)
    by false is = inr (same is)
      where
        same : nat_le m count ≡ false → m ≡ 1 + count
        same is = grind (arith, nat_tests)
