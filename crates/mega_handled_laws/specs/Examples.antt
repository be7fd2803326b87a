-- A worked run in which a handler stands under a queue in one event alone, that in which a pump's entry is made.
use Rattle.std.specs.Prelude.{ℕ, List, [], ◌∷◌, Option, Some}
use Rattle.mega_outcome.specs.declared.request.Request.{Request}
use Rattle.mega_outcome.specs.declared.request.Request.TheVariants.{PumpEnter, PumpHandle}
use Rattle.mega_run_laws.specs.of_tape_laws.of_schedule.declared.world_event.WorldEvent.{WorldEvent}
use Rattle.mega_run_laws.specs.of_tape_laws.of_schedule.declared.world_event.WorldEvent.TheVariants.{Begin, Drain}
use Rattle.mega_run_laws.specs.of_promises.Runs.{Happening}
use Rattle.mega_run_laws.specs.of_promises.Worked.{drain, forward, sending, under}

-- a text of so many bytes means a put that sends a message, or a pump
abbrev pub meant_by : List ℕ → Option Request
meant_by [] = Some sending
meant_by (a ∷ []) = Some PumpEnter
meant_by (a ∷ b ∷ more) = Some PumpHandle

abbrev pub at_node : ℕ → Request → List ℕ → WorldEvent
at_node node request text = Begin (record { 0 = node }) request text

-- the message is sent, and entered; a pump reads its group, then its entry is made under a handler that sends a message, and it is decided where that is gone
abbrev pub changes : List Happening
changes =
    under [] (at_node 1 sending []) ∷ under [] drain ∷ under [] (at_node 1 PumpEnter (1 ∷ [])) ∷ under [] drain
    ∷ under [] (at_node 1 PumpHandle (1 ∷ 1 ∷ [])) ∷ under forward (Drain 5) ∷ under [] drain ∷ []
