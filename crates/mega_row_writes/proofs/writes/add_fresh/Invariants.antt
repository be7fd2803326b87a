use Rattle.std.proofs.Common.{◌≡◌, ◌++◌}
use Rattle.mega_row_writes.specs.RowWrites.{fresh}
use Rattle.mega_row_writes.proofs.writes.add_fresh.Given as goal

abbrev pub invariant-loop-key : goal.invariant-loop-key
invariant-loop-key l = l.writes.items ++ fresh l.old.entries l.key-iterator ≡ l.initial.writes.items ++ fresh l.old.entries l.initial.key-iterator
