use Rattle.std.proofs.Common.{◌≡◌, take}
use Rattle.std.specs.Prelude.{filter}
use Rattle.mega_base.specs.declared.values.Cell.{Cell}
use Rattle.mega_index.specs.Cells.{is_listed}
use Rattle.mega_index.proofs.cells.row_with.Given as goal

abbrev pub invariant-loop-cell : goal.invariant-loop-cell
invariant-loop-cell l = l.cells ≡ filter (λ (c : Cell). is_listed l.numbers c.property) (take l.cell-index l.cell-items)
