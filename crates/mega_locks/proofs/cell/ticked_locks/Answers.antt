use Rattle.std.proofs.Common.{arith, refl}
use Rattle.mega_locks.specs.Rule.{ticked}
use Rattle.mega_base.proofs.Mapped.{so_far_more}
use Rattle.mega_locks.proofs.cell.ticked_locks.Goals as goal

pub loop-index-preserved : goal.loop-index-preserved
loop-index-preserved c = so_far_more (ticked c.args.first c.args.now) c.args.locks.now _ c.loop-index.after c.loop-index.index _ c.ticked.result c.loop-index.invariant c.ticked.ensures (omega arith) refl
