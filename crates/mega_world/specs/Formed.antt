-- What an event rests on: that it is of the format of messages, and what holds of every run that is reached.
use Rattle.std.specs.Prelude.{◌≡◌, ℕ, zero, suc, List, Option, Some, None}
use Rattle.mega_cluster.specs.declared.cluster.Cluster.{Cluster}
use Rattle.mega_places.specs.of_handler.Named.{Meaning, Meanings}
use Rattle.mega_places.specs.of_meanings.Means.{Means}
use Rattle.mega_places.specs.of_node_laws.Acted.{acted_on}
use Rattle.mega_places.specs.of_node_laws.Own.{HasOwnRows}
use Rattle.mega_wire.specs.declared.message.Message.{Message}
use Rattle.mega_wire.specs.Messages.{IsMessage}
use Rattle.mega_places.specs.of_promises.of_schedule.declared.world_event.WorldEvent.{WorldEvent}
use Rattle.mega_places.specs.of_promises.of_schedule.declared.world_event.WorldEvent.TheVariants.{Begin as BeginEvent, Deliver, Drain, Tick as TickEvent}
use Rattle.mega_places.specs.of_voter.of_rules.Logs.{log_of}
use Rattle.mega_places.specs.of_voter.of_rules.Steps.{Begin, Event, Take, Tick}
use Rattle.mega_format_laws.specs.Histories.{IsClock, IsMet}
use Rattle.mega_format_laws.specs.Nodes.{IsNode}
use Rattle.mega_format_laws.specs.Requests.{AreHandlers, IsRequest}
use Rattle.mega_places.specs.of_promises.Messages.{message_of, next_delivery}
use Rattle.mega_places.specs.of_promises.Runs.{Standing, by_fuse, delivered, setting, up}

-- what nodes met and owe, and what they sent, is of the format
pub record IsFormed (now : Standing) : Type 0 where
  pub nodes : (me : ℕ) → IsNode (now.node me)
  pub owed : (me : ℕ) → IsMet (now.owed me)
  pub messages : (number : ℕ) (message : Message) → message_of now.tape number ≡ Some message → IsMessage message

abbrev pub IsAsked : WorldEvent → Type 0
IsAsked (TickEvent node clock) = IsClock clock
IsAsked (BeginEvent node request text) = IsRequest request
IsAsked _ = Unit {0}

-- each group's rows are its own in the logs on which the operations of a step act
abbrev pub OwnsStep : Cluster → Meanings → Standing → ℕ → Event → Type 0
OwnsStep c h now me event = HasOwnRows c.schema (log_of (acted_on (setting c h me) (now.node me) event))

-- so it is in the step of a delivery
abbrev pub OwnsTaken : Cluster → Meanings → Standing → Option Message → Type 0
OwnsTaken c h now None = Unit {0}
OwnsTaken c h now (Some message) = OwnsStep c h now message.to (Take message)

abbrev pub OwnsDelivered : Cluster → Meanings → Standing → ℕ → Type 0
OwnsDelivered c h now number = OwnsTaken c h now (message_of now.tape number)

abbrev pub IfNext : (ℕ → Type 0) → Option ℕ → Type 0
IfNext Is None = Unit {0}
IfNext Is (Some number) = Is number

-- and in each that a drain makes, and what was met and sent behind it is of the format
abbrev pub OwnsDrained : Cluster → Meanings → ℕ → Standing → Type 0
OwnsDrained c h zero now = Unit {0}
OwnsDrained c h (suc most) now =
    IfNext (λ number. OwnsDelivered c h now number × IsFormed (delivered c h by_fuse now number) × OwnsDrained c h most (delivered c h by_fuse now number)) (next_delivery (up now) now.tape)

abbrev pub Owns : Cluster → Meanings → Standing → WorldEvent → Type 0
Owns c h now (TickEvent node clock) = OwnsStep c h now node.0 (Tick clock)
Owns c h now (BeginEvent node request text) = OwnsStep c h now node.0 (Begin request text)
Owns c h now (Deliver number) = OwnsDelivered c h now number
Owns c h now (Drain most) = OwnsDrained c h most now
Owns c h now _ = Unit {0}

-- an event whose clock, request and handlers are of the format, as what was met and sent before it is, over handlers with these meanings that make
-- this of messages, and whose steps act on logs in which each group has rows of its own
pub record IsSound (makes : List ℕ → Option Meaning) (c : Cluster) (h : Meanings) (now : Standing) (event : WorldEvent) : Type 0 where
  pub means : Means makes h
  pub handlers : AreHandlers h
  pub asked : IsAsked event
  pub formed : IsFormed now
  pub own : Owns c h now event
