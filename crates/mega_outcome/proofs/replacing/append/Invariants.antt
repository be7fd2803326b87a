use Rattle.std.proofs.Common.{◌≡◌, ◌++◌}
use Rattle.mega_outcome.proofs.replacing.append.Given as goal

abbrev pub invariant-loop-write : goal.invariant-loop-write
invariant-loop-write l = l.writes ≡ l.initial.writes ++ l.yielded
