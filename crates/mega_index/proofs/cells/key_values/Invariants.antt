use Rattle.std.proofs.Common.{◌≡◌, ◌++◌, drop}
use Rattle.mega_index.specs.Cells.{key_values}
use Rattle.mega_index.proofs.cells.key_values.Given as goal

abbrev pub invariant-loop-number : goal.invariant-loop-number
invariant-loop-number l = key_values l.numbers l.row ≡ l.key.items ++ key_values (drop l.number-index l.numbers) l.row
