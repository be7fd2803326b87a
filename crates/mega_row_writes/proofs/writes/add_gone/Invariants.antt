use Rattle.std.proofs.Common.{◌≡◌, ◌++◌}
use Rattle.mega_row_writes.specs.RowWrites.{gone}
use Rattle.mega_row_writes.proofs.writes.add_gone.Given as goal

abbrev pub invariant-loop-key : goal.invariant-loop-key
invariant-loop-key l = l.writes.items ++ gone l.new.entries l.key-iterator ≡ l.initial.writes.items ++ gone l.new.entries l.initial.key-iterator
