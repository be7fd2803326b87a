-- What clock, link and sink tell of a node.
use Rattle.std.specs.Prelude.{◌≡◌, ℕ, List, Option}
use Rattle.mega_io.specs.declared.sink.Sink.{Ghosts as SinkGhosts}
use Rattle.mega_link.specs.declared.clock.Clock.{Ghosts as ClockGhosts}
use Rattle.mega_link.specs.declared.link.Link.{Ghosts as LinkGhosts}
use Rattle.mega_link.specs.Datagrams.{Datagram}

-- the readings of the clock, what each receive gave, the datagrams that were sent, and the bytes that the sink holds, where these are told
pub record Outside : Type 0 where
  pub readings : Option (List ℕ)
  pub taken : Option (List (Option Datagram))
  pub sent : Option (List Datagram)
  pub held : Option (List ℕ)

abbrev pub told_by : {L C O : Type 0} → LinkGhosts L → ClockGhosts C → SinkGhosts O → L → C → O → Outside
told_by links clocks sinks link clock sink = record {
  readings = clocks.readings clock;
  taken = links.taken link;
  sent = links.sent link;
  held = sinks.held sink;
}

-- the sink alone went on, by bytes of which this is said
abbrev pub OnlyWrites : Outside → Outside → (Option (List ℕ) → Option (List ℕ) → Type 0) → Type 0
OnlyWrites before after Says = (after ≡ record before { held = after.held }) × Says before.held after.held
