-- How what a node keeps of its clock, its lock cell and its coordinator stands to what it met.
use Rattle.std.specs.Prelude.{◌≡◌, ◌≤◌, ℕ, List, ◌∷◌}
use Rattle.mega_cluster.specs.declared.cluster.Cluster.{Cluster}
use Rattle.mega_locks.specs.History.{Call as Asked, Represents as Locks}
use Rattle.mega_coordinator.specs.History.{Call as CoordinatorCall, Represents as Coordinates}
use Rattle.mega_wire.specs.declared.message.Body.{Body}
use Rattle.mega_rules.specs.Met.{Met, Takes}
use Rattle.mega_rules.specs.Clock.{last_done, last_tick, start_of, ticks_of}
use Rattle.mega_rules.specs.Locks.{cell_calls}
use Rattle.mega_rules.specs.Coordinators.{coordinator_calls}
use Rattle.mega_leases.specs.declared.leases.Leases.{Leases}
use Rattle.mega_leases.specs.Numbers.{numbers_of}

-- a node of this cluster, in this start, whose cell was asked and whose coordinator was told so, and which ticked so, each the newest first
pub record Holds (c : Cluster) (me : ℕ) (leases : Leases) (start : ℕ) (asked : List Asked) (told : List CoordinatorCall) (ticks : List ℕ) : Type 0 where
  pub least : 1 ≤ me
  pub numbers_are : leases.numbers ≡ numbers_of c me
  pub clock_is : leases.clock ≡ last_tick ticks
  pub last_is : leases.last ≡ last_done c.retry ticks
  pub cell_is : Locks leases.cell asked
  pub coordinator_is : Coordinates start c.cells leases.coordinator told

-- the same, by what the node met
abbrev pub Tells : Cluster → ℕ → Leases → List Met → Type 0
Tells c me leases met = Holds c me leases (start_of met) (cell_calls c me met) (coordinator_calls c met) (ticks_of met)

-- the same, once it took a message from this node that says this
abbrev pub TellsTaken : Cluster → ℕ → Leases → ℕ → Body → List Met → Type 0
TellsTaken c me leases from body met = (to : ℕ) → Tells c me leases (Takes (record { from = from; to = to; body = body }) ∷ met)
