use Rattle.std.proofs.Common.{◌≡◌}
use Rattle.mega_coordinator.specs.Lease.{left}
use Rattle.mega_base.proofs.Mapped.{so_far}
use Rattle.mega_coordinator.proofs.lease.left_cells.Given as goal

abbrev pub invariant-loop-index : goal.invariant-loop-index
invariant-loop-index l = l.after ≡ so_far (left l.now) l.until l.until l.index
