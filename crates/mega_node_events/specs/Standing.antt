-- How a replica, as it is, stands to the node of the rules.
use Rattle.std.specs.Prelude.{ℕ, List}
use Rattle.mega_disk.specs.VersionMaps.{Versions}
use Rattle.mega_handler.specs.Named.{Meanings}
use Rattle.mega_rules.specs.Operations.{Node as RuleNode, Operation}
use Rattle.mega_replica.specs.Following.{progress_at}
use Rattle.mega_actions.specs.declared.replica.Replica.{Replica}
use Rattle.mega_actions.specs.IsAt.{setting_of}
use Rattle.mega_node_events.specs.Represents.{Represents}

-- a replica with these open operations, and so many begun, represents that node, in its cluster and under its number
abbrev pub StandsWith : {R V : Type 0} → (V → Versions) → Meanings → Replica R V → List Operation → ℕ → RuleNode → Type 0
StandsWith version h one opened begun node =
    Represents (setting_of one h) one.voter.logs.kept one.leases one.indexed one.digest (version one.rows.rows) (progress_at one.rows.progress) opened begun node
