use Rattle.std.proofs.Common.{◌≡◌, ◌++◌, drop}
use Rattle.mega_keys.specs.Fit.{misplaced}
use Rattle.mega_keys.proofs.fit.misplaced.Given as goal

abbrev pub invariant-loop-place : goal.invariant-loop-place
invariant-loop-place l = misplaced (drop l.place (l.root ++ l.rest)) (drop l.place l.values) l.place ≡ misplaced (l.root ++ l.rest) l.values 0
