use Rattle.std.proofs.Common.{◌≡◌, ◌-◌, ◌++◌, List}
use Rattle.mega_cluster.specs.declared.cluster.Cluster.{Cluster}
use Rattle.mega_places.specs.of_handler.Named.{Meanings}
use Rattle.mega_places.specs.of_promises.of_schedule.declared.world_event.WorldEvent.TheVariants.{Drain}
use Rattle.mega_places.specs.of_promises.of_transcript.declared.item.Item.{Item}
use Rattle.mega_places.specs.of_promises.Runs.{Standing}
use Rattle.mega_world.specs.Formed.{IsSound}
use Rattle.mega_world.specs.AtRun.{StandsWith}
use Rattle.mega_world.proofs.Emptying.{Reaches}
use Rattle.mega_world.proofs.world.World.drain.Given as goal

abbrev pub invariant-loop-turn : goal.invariant-loop-turn
invariant-loop-turn g l =
    ((c : Cluster) (h : Meanings) (earlier : List Item) (now : Standing) → StandsWith c l.initial.self (earlier ++ l.initial.tape.items) now → IsSound (g.H.QueueHandlers.meant l.initial.handlers) c h now (Drain l.most)
    → Reaches c h now l.most l.self earlier l.initial.tape.items l.tape.items (l.most - l._turn))
    × (g.H.QueueHandlers.meant l.handlers ≡ g.H.QueueHandlers.meant l.initial.handlers)
