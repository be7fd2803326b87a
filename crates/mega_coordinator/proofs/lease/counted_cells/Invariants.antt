use Rattle.std.proofs.Common.{◌≡◌}
use Rattle.std.specs.Prelude.{is_some}
use Rattle.mega_base.proofs.Mapped.{so_far}
use Rattle.mega_coordinator.proofs.lease.counted_cells.Given as goal

abbrev pub invariant-loop-index : goal.invariant-loop-index
invariant-loop-index l = l.counted ≡ so_far is_some l.until l.initial.counted l.index
