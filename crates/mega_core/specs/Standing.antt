-- How a node, as it is, stands to the node of the rules.
use Rattle.mega_disk.specs.VersionMaps.{Versions}
use Rattle.mega_handler.specs.Named.{Meanings}
use Rattle.mega_rules.specs.Operations.{Node as RuleNode}
use Rattle.mega_core.specs.declared.node.Node.{Node}
use Rattle.mega_lag.specs.Lagging.{KnowsLagging}
use Rattle.mega_node_events.specs.Standing.{StandsWith}

-- all that a node keeps represents that node, and it knows the groups of which it may not have applied all that is decided
pub record StandsFor {R V : Type 0} (version : V → Versions) (h : Meanings) (one : Node R V) (node : RuleNode) : Type 0 where
  pub within : StandsWith version h one.replica one.open one.begun node
  pub lagging : KnowsLagging one.replica.members one.replica.me one.lagging node.met node.stored
