use Rattle.std.proofs.Common.{arith}
use Rattle.std.specs.Prelude.{is_some}
use Rattle.mega_base.proofs.Mapped.{so_far_more}
use Rattle.mega_coordinator.proofs.lease.counted_cells.Goals as goal

pub loop-index-preserved : goal.loop-index-preserved
loop-index-preserved c = so_far_more is_some c.args.until.now _ c.loop-index.counted c.loop-index.index _ c.is_some.result c.loop-index.invariant c.is_some.ensures (omega arith) (omega arith)
