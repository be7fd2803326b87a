-- What the step of a node is over: each node of the rules that it stands for, and at which the event may happen.
use Rattle.std.specs.Prelude.{◌≡◌, ℕ, false, List, Option}
use Rattle.mega_cluster.specs.declared.cluster.Cluster.{Cluster}
use Rattle.mega_disk.specs.VersionMaps.{Versions}
use Rattle.mega_handler.specs.Named.{Meaning, Meanings}
use Rattle.mega_meanings.specs.Means.{Means}
use Rattle.mega_rules.specs.Logs.{log_of}
use Rattle.mega_rules.specs.Operations.{Node as RuleNode, Setting}
use Rattle.mega_rules.specs.Steps.{Begin, Event, Take, Tick}
use Rattle.mega_step_parts.specs.of_leases.Taking.{IsByStranger, IsLate}
use Rattle.mega_actions.specs.of_node_laws.Acted.{acted_on, decision_in}
use Rattle.mega_actions.specs.of_node_laws.Own.{HasOwnRows}
use Rattle.mega_actions.specs.of_step_work.Servable.{is_served}
use Rattle.mega_actions.specs.IsAt.{setting_of}
use Rattle.mega_step_parts.specs.Placed.{IsPlaced}
use Rattle.mega_core.specs.declared.node.Node.{Node}
use Rattle.mega_core.specs.Standing.{StandsFor}

-- a decision that a message brings is at a position from 1 on
abbrev pub IsPlacedAt : Setting → RuleNode → Event → Type 0
IsPlacedAt s node (Take message) = IsPlaced (decision_in s node message)
IsPlacedAt s node (Begin request text) = Unit {0}
IsPlacedAt s node (Tick now) = Unit {0}

-- of each node of the rules for which a node stands, over handlers that make this of messages, where each group's rows are its own then
abbrev pub AtEach : {R V : Type 0} → (V → Versions) → (List ℕ → Option Meaning) → Node R V → Event → (Meanings → Setting → RuleNode → Type 0) → Type 0
AtEach version makes one event Is =
    (h : Meanings) (node : RuleNode) → Means makes h → StandsFor version h one node → HasOwnRows one.replica.members.schema (log_of (acted_on (setting_of one.replica h) node event))
    → IsPlacedAt (setting_of one.replica h) node event → Is h (setting_of one.replica h) node

-- what is taken is of a node that is none of 1 to 9, or asks about one
abbrev pub IsStrange : Event → Type 0
IsStrange (Take message) = IsByStranger message.from message.body
IsStrange (Begin request text) = ⊥
IsStrange (Tick now) = ⊥

-- a node stands for none of the rules
abbrev pub IsNone : (Meanings → RuleNode → Type 0) → Type 0
IsNone StandsFor = (h : Meanings) (node : RuleNode) → StandsFor h node → ⊥

-- why a step is not served: what begins is a batch of more than 16 transactions; of any other event, that the node stands for none of the rules
abbrev pub IsUnserved : (Meanings → RuleNode → Type 0) → Event → Type 0
IsUnserved StandsFor (Take message) = IsNone StandsFor
IsUnserved StandsFor (Begin request text) = is_served request ≡ false
IsUnserved StandsFor (Tick now) = IsNone StandsFor

-- why it is too late: what a node of the rules takes grants a lease that would end at 2^64 or later
abbrev pub IsTooLate : (Meanings → RuleNode → Type 0) → Cluster → Event → Type 0
IsTooLate StandsFor c (Take message) = (h : Meanings) (node : RuleNode) → StandsFor h node → IsLate c message.body
IsTooLate StandsFor c (Begin request text) = ⊥
IsTooLate StandsFor c (Tick now) = ⊥
