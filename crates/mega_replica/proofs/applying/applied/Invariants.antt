use Rattle.std.proofs.Common.{◌≡◌, ◌+◌, drop}
use Rattle.mega_replica.specs.Applying.{applied}
use Rattle.mega_replica.proofs.applying.applied.Given as goal

abbrev pub invariant-loop-count : goal.invariant-loop-count
invariant-loop-count l = l.count + applied (drop l.count l.log) l.left ≡ applied l.log l.stored
