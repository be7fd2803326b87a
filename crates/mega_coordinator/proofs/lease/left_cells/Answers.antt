use Rattle.std.proofs.Common.{arith, refl}
use Rattle.mega_coordinator.specs.Lease.{left}
use Rattle.mega_base.proofs.Mapped.{so_far_more}
use Rattle.mega_coordinator.proofs.lease.left_cells.Goals as goal

pub loop-index-preserved : goal.loop-index-preserved
loop-index-preserved c = so_far_more (left c.args.now) c.args.until.now _ c.loop-index.after c.loop-index.index _ c.left.result c.loop-index.invariant c.left.ensures (omega arith) refl
