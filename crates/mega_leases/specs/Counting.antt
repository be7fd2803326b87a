-- Whether the coordinator of a node counts a cell, in an epoch as its present one.
use Rattle.std.specs.Prelude.{ℕ, ◌&&◌, Bool, false, List, Option, Some, None, is_some}
use Rattle.mega_base.specs.declared.names.Epoch.{Epoch}
use Rattle.mega_cluster.specs.declared.cluster.Cluster.{Cluster}
use Rattle.mega_coordinator.specs.Groups.{is_same}
use Rattle.mega_coordinator.specs.History.{epoch_after, lease_of}
use Rattle.mega_coordinator.specs.Lease.{counted_by}
use Rattle.mega_rules.specs.Met.{Met}
use Rattle.mega_rules.specs.Clock.{start_of}
use Rattle.mega_rules.specs.Coordinators.{coordinator_calls}

abbrev pub is_epoch : Option Epoch → Epoch → Bool
is_epoch None epoch = false
is_epoch (Some present) epoch = is_same present epoch

abbrev pub counts_at : Cluster → List Met → ℕ → Epoch → Bool
counts_at c met cell epoch =
    is_epoch (epoch_after (start_of met) c.cells (coordinator_calls c met)) epoch
    && is_some (counted_by (lease_of (start_of met) c.cells (coordinator_calls c met)) cell)
