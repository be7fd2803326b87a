-- Where a start is past the last number.
use Rattle.std.specs.Prelude.{◌≡◌, None}
use Rattle.mega_cluster.specs.declared.cluster.Cluster.{Cluster}
use Rattle.mega_base.specs.declared.names.NodeId.{NodeId}
use Rattle.mega_places.specs.of_promises.of_schedule.declared.world_event.WorldEvent.{WorldEvent}
use Rattle.mega_places.specs.of_promises.of_schedule.declared.world_event.WorldEvent.TheVariants.{Start as StartEvent}
use Rattle.mega_places.specs.of_promises.Runs.{Standing, refusal}

-- the start of a node that is down and whose log tells of 4,294,967,295 starts, the last number
pub record IsPastLast (c : Cluster) (now : Standing) (event : WorldEvent) : Type 0 where
  pub node : NodeId
  pub is : event ≡ StartEvent node
  pub allowed : refusal c now event ≡ None
  pub last : now.starts node.0 ≡ 4294967295
