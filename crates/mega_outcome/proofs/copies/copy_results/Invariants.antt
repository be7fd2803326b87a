use Rattle.std.proofs.Common.{◌≡◌, take}
use Rattle.mega_outcome.proofs.copies.copy_results.Given as goal

abbrev pub invariant-loop-outcome : goal.invariant-loop-outcome
invariant-loop-outcome l = l.made ≡ take l.outcome-index l.outcome-items
