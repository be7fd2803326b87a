use Rattle.std.proofs.Common.{◌≡◌, drop}
use Rattle.mega_keys.specs.Fit.{misplaced}
use Rattle.mega_index.proofs.asked.misplaced.Given as goal

abbrev pub invariant-loop-place : goal.invariant-loop-place
invariant-loop-place l = misplaced (drop l.place l.kinds) (drop l.place l.values) l.place ≡ misplaced l.kinds l.values 0
