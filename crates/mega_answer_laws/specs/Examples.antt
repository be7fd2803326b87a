-- A worked run that answers with words of each kind: where an operation acts, at once where it begins, and at a tick.
use Rattle.std.specs.Prelude.{ℕ, List, [], ◌∷◌, map, Option, Some}
use Rattle.mega_outcome.specs.declared.request.Mode.TheVariants.{Inconsistent, Snapshot}
use Rattle.mega_outcome.specs.declared.request.Request.{Request}
use Rattle.mega_outcome.specs.declared.request.Request.TheVariants.{PumpEnter, PumpHandle, Read, Refresh}
use Rattle.mega_cause_laws.specs.of_run_laws.of_tape_laws.of_promises.of_schedule.declared.world_event.WorldEvent.{WorldEvent}
use Rattle.mega_cause_laws.specs.of_run_laws.of_tape_laws.of_promises.of_schedule.declared.world_event.WorldEvent.TheVariants.{Begin}
use Rattle.mega_cause_laws.specs.of_run_laws.of_tape_laws.of_promises.of_rules.Examples.{group, put}
use Rattle.mega_cause_laws.specs.of_run_laws.of_tape_laws.of_promises.Runs.{Happening}
use Rattle.mega_cause_laws.specs.of_run_laws.of_tape_laws.of_promises.Worked.{drain, happens, tick, user_101}
use Rattle.mega_cause_laws.specs.of_run_laws.of_tape_laws.Writes.{Usage}

abbrev pub snapshot : Request
snapshot = Read (record { mode = Snapshot; group = group; rows = user_101 ∷ [] })

abbrev pub of_stored : Request
of_stored = Read (record { mode = Inconsistent; group = group; rows = user_101 ∷ [] })

-- a text of so many bytes means a put, a snapshot, an inconsistent read, a refresh or a pump
abbrev pub meant_by : List ℕ → Option Request
meant_by [] = Some put
meant_by (a ∷ []) = Some snapshot
meant_by (a ∷ b ∷ []) = Some of_stored
meant_by (a ∷ b ∷ c ∷ []) = Some Refresh
meant_by (a ∷ b ∷ c ∷ d ∷ []) = Some PumpHandle
meant_by (a ∷ b ∷ c ∷ d ∷ more) = Some PumpEnter

abbrev pub many_words : Usage
many_words = record { meaning = meant_by; handlers = λ moment. [] }

abbrev pub at_node : ℕ → Request → List ℕ → WorldEvent
at_node node request text = Begin (record { 0 = node }) request text

-- a put is committed; it is read, refreshed, and there is nothing to handle or to enter; another put runs out of patience before its value is sent
abbrev pub words : List Happening
words = map happens (
    at_node 1 put [] ∷ drain ∷ at_node 1 snapshot (1 ∷ []) ∷ at_node 1 of_stored (1 ∷ 1 ∷ []) ∷ at_node 1 Refresh (1 ∷ 1 ∷ 1 ∷ [])
    ∷ at_node 1 PumpHandle (1 ∷ 1 ∷ 1 ∷ 1 ∷ []) ∷ at_node 1 PumpEnter (1 ∷ 1 ∷ 1 ∷ 1 ∷ 1 ∷ []) ∷ at_node 2 put [] ∷ tick 2 1000 ∷ []
    )
