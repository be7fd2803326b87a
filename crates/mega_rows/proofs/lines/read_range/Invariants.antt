use Rattle.std.proofs.Common.{◌≡◌, ◌++◌}
use Rattle.mega_rows.specs.Lines.{seen}
use Rattle.mega_rows.proofs.lines.read_range.Given as goal

abbrev pub invariant-loop-key : goal.invariant-loop-key
invariant-loop-key l = l.rows.items ++ seen l.at l.key-iterator ≡ seen l.at l.initial.key-iterator
