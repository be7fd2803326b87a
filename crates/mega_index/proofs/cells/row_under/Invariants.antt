use Rattle.std.proofs.Common.{◌≡◌, drop}
use Rattle.mega_row_writes.specs.Rows.{row_under}
use Rattle.mega_index.proofs.cells.row_under.Given as goal

abbrev pub invariant-loop-one : goal.invariant-loop-one
invariant-loop-one l = row_under (drop l.one-index l.rows) l.key ≡ row_under l.rows l.key
