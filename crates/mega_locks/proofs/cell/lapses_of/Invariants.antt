use Rattle.std.proofs.Common.{◌≡◌}
use Rattle.mega_locks.specs.Rule.{lapse}
use Rattle.mega_base.proofs.Mapped.{so_far}
use Rattle.mega_locks.proofs.cell.lapses_of.Given as goal

abbrev pub invariant-loop-index : goal.invariant-loop-index
invariant-loop-index l = l.lapsed ≡ so_far (lapse l.first l.now) l.locks l.initial.lapsed l.index
