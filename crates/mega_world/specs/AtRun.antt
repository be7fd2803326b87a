-- How a world stands to a run of its cluster.
use Rattle.std.specs.Prelude.{◌≡◌, ◌++◌, ℕ, List, Option, None}
use Rattle.mega_cluster.specs.declared.cluster.Cluster.{Cluster}
use Rattle.mega_places.specs.of_handler.Named.{Meaning, Meanings}
use Rattle.mega_places.specs.of_promises.of_schedule.declared.world_event.WorldEvent.{WorldEvent}
use Rattle.mega_places.specs.of_promises.of_schedule.declared.world_event.WorldEvent.TheVariants.{Deliver}
use Rattle.mega_places.specs.of_promises.of_transcript.declared.item.Item.{Item}
use Rattle.mega_places.specs.of_promises.of_transcript.Tape.{newest}
use Rattle.mega_places.specs.of_durable.of_core.Served.{IsServed}
use Rattle.mega_places.specs.of_promises.Runs.{Standing, refusal}
use Rattle.mega_world.specs.declared.world.World.{World}
use Rattle.mega_places.specs.Carries.{Carries}
use Rattle.mega_world.specs.Formed.{IsSound}
use Rattle.mega_places.specs.Kept.{AreNodes}
use Rattle.mega_safety.specs.Lapses.{KnowsLeases}

-- the nodes, up or down, with all that they keep, what is carried between them, and what tells whether leases are safe are those of the run,
-- and these are all items of its tape, of which the world keeps none
pub record StandsWith (c : Cluster) (world : World) (items : List Item) (now : Standing) : Type 0 where
  pub cluster : world.cluster ≡ c
  pub served : IsServed c
  pub nodes : AreNodes c world.places.items now
  pub mail : Carries world.mail now.tape
  pub tape : newest items ≡ now.tape
  pub leases : KnowsLeases world.safety now.node now.tape

-- the world stands as the run does, whatever became of its tape
abbrev pub IsAt : Cluster → World → Standing → Type 0
IsAt c world now = StandsWith c world (newest now.tape) now

-- there is a run at which the world stands, with these items of its tape in hand, and the event is sound in it
pub record IsDue (makes : List ℕ → Option Meaning) (world : World) (hand : List Item) (event : WorldEvent) : Type 0 where
  pub cluster : Cluster
  pub handlers : Meanings
  pub earlier : List Item
  pub now : Standing
  pub at : StandsWith cluster world (earlier ++ hand) now
  pub sound : IsSound makes cluster handlers now event

-- there is a run at which the world stands, and the event is sound in it where it is not refused
pub record MayCome (makes : List ℕ → Option Meaning) (world : World) (hand : List Item) (event : WorldEvent) : Type 0 where
  pub cluster : Cluster
  pub handlers : Meanings
  pub earlier : List Item
  pub now : Standing
  pub at : StandsWith cluster world (earlier ++ hand) now
  pub sound : refusal cluster now event ≡ None → IsSound makes cluster handlers now event

-- there is a run at which the world stands, in which the delivery of this message is sound and not refused
pub record IsAllowed (makes : List ℕ → Option Meaning) (world : World) (hand : List Item) (number : ℕ) : Type 0 where
  pub cluster : Cluster
  pub handlers : Meanings
  pub earlier : List Item
  pub now : Standing
  pub at : StandsWith cluster world (earlier ++ hand) now
  pub sound : IsSound makes cluster handlers now (Deliver number)
  pub allowed : refusal cluster now (Deliver number) ≡ None
