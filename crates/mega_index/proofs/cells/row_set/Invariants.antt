use Rattle.std.proofs.Common.{◌≡◌, map, take}
use Rattle.mega_index.specs.Cells.{cell_set}
use Rattle.mega_index.proofs.cells.row_set.Given as goal

abbrev pub invariant-loop-cell : goal.invariant-loop-cell
invariant-loop-cell l = l.cells ≡ map (cell_set l.property l.value) (take l.cell-index l.cell-items)
