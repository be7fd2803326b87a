use Rattle.std.proofs.Common.{◌≡◌}
use Rattle.mega_coordinator.specs.Lease.{is_due}
use Rattle.mega_base.proofs.Mapped.{so_far}
use Rattle.mega_coordinator.proofs.lease.due_cells.Given as goal

abbrev pub invariant-loop-index : goal.invariant-loop-index
invariant-loop-index l = l.due ≡ so_far (is_due l.now) l.until l.initial.due l.index
