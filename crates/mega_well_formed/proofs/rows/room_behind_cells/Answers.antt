use Rattle.std.proofs.Common.{◌+◌, ℕ, drop, subst, sym}
use Rattle.std.specs.List.{flat_map}
use Rattle.mega_base.specs.Values.{Ascends, cell_text}
use Rattle.mega_well_formed.proofs.Room.{Leads, cell_fails, cell_step, cells_end}
use Rattle.mega_well_formed.proofs.rows.room_behind_cells.Goals as goal

pub loop-cell-preserved : goal.loop-cell-preserved
loop-cell-preserved c =
    let n = c.loop-cell.cell-index in
    subst (λ (low : ℕ). Leads (Ascends (low + 1) (drop (n + 1) c.args.cells.now)) (flat_map cell_text (drop (n + 1) c.args.cells.now)) c.in-Some.less (Ascends 0 c.args.cells.now) (flat_map cell_text c.args.cells.now) c.args.room) (sym c.from-low.ensures)
    (cell_step c.args.cells.now n c.cell-item.result c.loop-cell.low c.loop-cell.left c.in-Some.less _ _ c.args.room c.loop-cell-test.true c.cell-item.is c.loop-cell.invariant c.in-Some.ensures)

pub returns-in-None : goal.returns-in-None
returns-in-None c = cell_fails c.args.cells.now c.loop-cell.cell-index c.cell-item.result c.loop-cell.low c.loop-cell.left _ _ c.args.room c.loop-cell-test.true c.cell-item.is c.loop-cell.invariant c.in-None.ensures

pub returns : goal.returns
returns c = cells_end c.args.cells.now c.loop-cell.cell-index c.loop-cell.low c.loop-cell.left _ _ c.args.room c.loop-cell-test.false c.loop-cell.invariant
