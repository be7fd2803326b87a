-- Why the event of a line does not happen.
use Rattle.std.specs.Prelude.{◌≡◌, ℕ, List, Some, Ok}
use Rattle.mega_cluster.specs.declared.cluster.Cluster.{Cluster}
use Rattle.mega_schedule.specs.declared.world_event.WorldEvent.{WorldEvent}
use Rattle.mega_schedule.specs.Events.{event_of}
use Rattle.mega_shown_laws.specs.of_promises.Runs.{Standing, refusal}
use Rattle.mega_world.specs.Last.{IsPastLast as IsPastLastEvent}

-- the line of this number spells an event that the run refuses, for this reason
pub record IsRefused (c : Cluster) (number : ℕ) (line : List ℕ) (now : Standing) (why : ℕ) : Type 0 where
  pub event : WorldEvent
  pub spelled : event_of c.schema number line ≡ Ok event
  pub refused : refusal c now event ≡ Some why

-- it spells the start of a node that is down and that started 4,294,967,295 times
pub record IsPastLast (c : Cluster) (number : ℕ) (line : List ℕ) (now : Standing) : Type 0 where
  pub event : WorldEvent
  pub spelled : event_of c.schema number line ≡ Ok event
  pub past : IsPastLastEvent c now event
