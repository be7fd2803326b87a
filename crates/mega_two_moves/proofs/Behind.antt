-- What stands behind the last.
use Rattle.std.proofs.Common.{◌≡◌, ◌+◌, ◌<◌, ℕ, true, false, arith}
use Rattle.std.specs.Prelude.{nat_lt}
use Rattle.std.proofs.lemmas.Bool.Decides.{nat_tests}

pub is_beyond : (count i : ℕ) → (i < count → ⊥) → nat_lt (i + 1) count ≡ false
is_beyond count i beyond = grind (arith, nat_tests)
