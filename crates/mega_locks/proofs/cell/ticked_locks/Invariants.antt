use Rattle.std.proofs.Common.{◌≡◌}
use Rattle.mega_locks.specs.Rule.{ticked}
use Rattle.mega_base.proofs.Mapped.{so_far}
use Rattle.mega_locks.proofs.cell.ticked_locks.Given as goal

abbrev pub invariant-loop-index : goal.invariant-loop-index
invariant-loop-index l = l.after ≡ so_far (ticked l.first l.now) l.locks l.locks l.index
