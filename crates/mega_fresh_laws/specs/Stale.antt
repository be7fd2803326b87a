-- A schedule by which a local read is stale, as leases are not safe.
use Rattle.std.specs.Prelude.{List, [], ◌∷◌, ◌++◌, map}
use Rattle.mega_outcome.specs.declared.request.Mode.TheVariants.{Current}
use Rattle.mega_leased_laws.specs.of_settled_laws.of_run_laws.of_tape_laws.of_promises.of_schedule.declared.world_event.WorldEvent.{WorldEvent}
use Rattle.mega_leased_laws.specs.of_settled_laws.of_run_laws.of_tape_laws.of_promises.of_schedule.declared.world_event.WorldEvent.TheVariants.{Deliver}
use Rattle.mega_leased_laws.specs.of_settled_laws.of_run_laws.of_tape_laws.of_promises.Worked.{drain, put_at, read_at, tick}

-- node 1 holds its locks and a valid group, and its clock stands still, while those of cells 2 and 3 run on until its locks lapse there; node 2 puts, all of
-- whose messages to node 1 stay on their way, and then node 1 reads
abbrev pub stale : List WorldEvent
stale =
    tick 1 10 ∷ drain ∷ put_at 1 ∷ drain ∷ tick 2 60 ∷ tick 3 60 ∷ put_at 2
    ∷ map Deliver (28 ∷ 29 ∷ 30 ∷ 31 ∷ []) ++ tick 2 180 ∷ tick 3 180
    ∷ map Deliver (37 ∷ 38 ∷ 42 ∷ 43 ∷ 45 ∷ 46 ∷ 47 ∷ 48 ∷ []) ++ tick 2 240 ∷ map Deliver (54 ∷ 55 ∷ 56 ∷ 57 ∷ []) ++ read_at 1 Current ∷ []
