use Rattle.std.proofs.Common.{◌-◌}
use Rattle.mega_base.specs.Values.{cells_at}
use Rattle.mega_base.proofs.Rising.{Coming}
use Rattle.mega_base.proofs.row_fields.take_cells.Given as goal

abbrev pub invariant-loop-done : goal.invariant-loop-done
invariant-loop-done l = Coming (l.count - l.done) l.low l.cells l.cursor (cells_at l.count 0 l.fn.cursor)
