-- What is left of a list that is gone through.
use Rattle.std.proofs.Common.{◌≡◌, ◌+◌, ℕ, List, ◌∷◌, length, arith}

pub one_less : {X : Type 0} (all rest : List X) (x : X) (now then : ℕ) → now ≡ length all → all ≡ x ∷ rest → then + 1 ≡ now → then ≡ length rest
one_less all rest x now then is cons less = let longer : length all ≡ length rest + 1 = grind (arith, cons) in omega (arith, is, longer, less)
