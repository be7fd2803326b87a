use Rattle.std.proofs.Common.{◌≡◌, ℕ, ◌<◌, false, true, get_or, length}
use Rattle.std.specs.Prelude.{◌↔◌}
use Rattle.std.specs.Int.{IsBitSet}
use Rattle.mega_ballot.proofs.quorum.Quorum.new.Given as goal

abbrev pub invariant-loop-k : goal.invariant-loop-k
invariant-loop-k l = (length l.marks ≡ 16) × ((j : ℕ) → j < l.k → (get_or l.marks j false ≡ true) ↔ IsBitSet l.members j)
