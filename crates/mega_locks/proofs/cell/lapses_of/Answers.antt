use Rattle.std.proofs.Common.{arith}
use Rattle.mega_locks.specs.Rule.{lapse}
use Rattle.mega_base.proofs.Mapped.{so_far_more}
use Rattle.mega_locks.proofs.cell.lapses_of.Goals as goal

pub loop-index-preserved : goal.loop-index-preserved
loop-index-preserved c = so_far_more (lapse c.args.first c.args.now) c.args.locks.now _ c.loop-index.lapsed c.loop-index.index _ c.lapse.result c.loop-index.invariant c.lapse.ensures (omega arith) (omega arith)
