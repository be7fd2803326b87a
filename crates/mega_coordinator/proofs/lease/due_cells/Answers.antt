use Rattle.std.proofs.Common.{arith}
use Rattle.mega_coordinator.specs.Lease.{is_due}
use Rattle.mega_base.proofs.Mapped.{so_far_more}
use Rattle.mega_coordinator.proofs.lease.due_cells.Goals as goal

pub loop-index-preserved : goal.loop-index-preserved
loop-index-preserved c = so_far_more (is_due c.args.now) c.args.until.now _ c.loop-index.due c.loop-index.index _ c.is_due.result c.loop-index.invariant c.is_due.ensures (omega arith) (omega arith)
