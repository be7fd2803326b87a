use Rattle.std.proofs.Common.{◌≡◌, ◌++◌}
use Rattle.mega_lag.proofs.lagging.copies.Given as goal

abbrev pub invariant-loop-group : goal.invariant-loop-group
invariant-loop-group l = l.groups ++ l.group-iterator ≡ l.initial.group-iterator
