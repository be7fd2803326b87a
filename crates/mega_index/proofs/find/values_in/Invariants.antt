use Rattle.std.proofs.Common.{◌≡◌, ◌++◌}
use Rattle.mega_index.proofs.find.values_in.Given as goal

abbrev pub invariant-loop-one : goal.invariant-loop-one
invariant-loop-one l = l.found.items ++ l.one-iterator ≡ l.initial.one-iterator
