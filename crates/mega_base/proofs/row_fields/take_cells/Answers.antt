use Rattle.std.proofs.Common.{◌≡◌, ◌-◌, ◌+◌, suc, arith}
use Rattle.mega_base.proofs.Rising.{cells_step, cells_fail, cells_ready}
use Rattle.mega_base.proofs.row_fields.take_cells.Goals as goal

pub returns-in-Err : goal.returns-in-Err
returns-in-Err c =
    cells_fail (c.args.count - c.loop-done.done) (c.args.count - 1 - c.loop-done.done) c.loop-done.low c.loop-done.cells c.loop-done.cursor c.take_cell.new.cursor c.take_cell.new.cursor c.in-Err.fault _
    (omega arith) c.in-Err.ensures c.loop-done.invariant

pub loop-done-preserved : goal.loop-done-preserved
loop-done-preserved c =
    let e : c.args.count - (c.loop-done.done + 1) ≡ c.args.count - 1 - c.loop-done.done = omega arith in
    rw (e, c.from-low.ensures, c.in_ok-push-in-Ok.ensures.ok) (cells_step (c.args.count - c.loop-done.done) (c.args.count - 1 - c.loop-done.done) c.loop-done.low c.loop-done.cells c.loop-done.cursor c.in-Ok.cell c.take_cell.new.cursor _
    (omega arith) c.in-Ok.ensures c.loop-done.invariant)

pub returns : goal.returns
returns c = cells_ready (c.args.count - c.loop-done.done) c.loop-done.low c.loop-done.cells c.loop-done.cursor _ (omega arith) c.loop-done.invariant
