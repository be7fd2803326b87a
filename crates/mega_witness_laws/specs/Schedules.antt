-- Schedules whose runs meet the premises of the laws: a read whose answers are old, a node that regains its locks, and a pump that comes too late.
use Rattle.std.specs.Prelude.{List, [], ◌∷◌, ◌++◌, map}
use Rattle.mega_base.specs.declared.names.GroupId.{GroupId}
use Rattle.mega_outcome.specs.declared.request.Mode.TheVariants.{Current}
use Rattle.mega_outcome.specs.declared.request.Request.{Request}
use Rattle.mega_outcome.specs.declared.request.Request.TheVariants.{PumpEnter, Txn}
use Rattle.mega_outcome.specs.declared.transaction.Change.TheVariants.{Put}
use Rattle.mega_valid_laws.specs.of_settled_laws.of_tape_laws.of_schedule.declared.world_event.WorldEvent.{WorldEvent}
use Rattle.mega_valid_laws.specs.of_settled_laws.of_tape_laws.of_schedule.declared.world_event.WorldEvent.TheVariants.{Deliver, Drop}
use Rattle.mega_valid_laws.specs.of_settled_laws.of_tape_laws.of_promises.Worked.{begin, crash, drain, put_at, read_at, second, start, tick, to}
use Rattle.mega_valid_laws.specs.of_settled_laws.of_tape_laws.of_rules.Examples.{group, user}

-- ---- old answers

-- node 2 serves, and its current read asks where the log ends, of which nodes 1 and 2 say position 0; node 3 puts, which nodes 1 and 3 accept, while its accept
-- to node 2 stays on its way, so that it tells node 2 at a tick to count the group invalid
abbrev pub pressed : List WorldEvent
pressed =
    tick 2 10 ∷ drain ∷ read_at 2 Current ∷ Deliver 7 ∷ Deliver 8 ∷ put_at 3
    ∷ map Deliver (12 ∷ 14 ∷ 15 ∷ 16 ∷ 17 ∷ 18 ∷ 20 ∷ 21 ∷ []) ++ tick 3 50 ∷ []

-- the old answers come behind that word
abbrev pub told_before : List WorldEvent
told_before = pressed ++ Deliver 25 ∷ Deliver 10 ∷ Deliver 11 ∷ []

-- they come, and that word is still on its way
abbrev pub not_told : List WorldEvent
not_told = pressed ++ Deliver 10 ∷ Deliver 11 ∷ []

-- ---- locks that are regained

-- node 3 serves, and crashes, and its epoch lapses at the cells of nodes 1 and 2
abbrev pub fallen : List WorldEvent
fallen =
    tick 1 0 ∷ tick 2 0 ∷ tick 3 10 ∷ map Deliver (7 ∷ 8 ∷ 9 ∷ 10 ∷ 11 ∷ [])
    ++ crash 3 ∷ tick 1 120 ∷ tick 2 120 ∷ []

-- node 1 puts, and at a tick asks the cells what they hold for node 3
abbrev pub covered_without : List WorldEvent
covered_without = fallen ++ put_at 1 ∷ drain ∷ tick 1 170 ∷ drain ∷ []

-- node 3 starts again, and gets none of the messages that told it of the put; it regains its locks, and reads twice
abbrev pub regained : List WorldEvent
regained =
    covered_without ++ start 3 ∷ Drop 35 ∷ Drop 39 ∷ Drop 48 ∷ tick 3 10 ∷ drain
    ∷ read_at 3 Current ∷ drain ∷ read_at 3 Current ∷ []

-- ---- a pump that comes too late

abbrev pub third : GroupId
third = record { key = 1 ∷ 128 ∷ 0 ∷ 0 ∷ 0 ∷ 0 ∷ 0 ∷ 0 ∷ 103 ∷ [] }

-- a put that sends a message to two groups
abbrev pub sending_two : Request
sending_two = Txn (record { group = group; checks = []; reads = []; writes = Put 1 user ∷ []; sends = to second ∷ to third ∷ [] })

-- pumps of nodes 2 and 1 pick the second group; that of node 2 enters the message there while the questions of that of node 1 are on their way
abbrev pub two_pumps : List WorldEvent
two_pumps =
    begin 1 sending_two ∷ drain ∷ begin 2 PumpEnter ∷ begin 1 PumpEnter
    ∷ map Deliver (15 ∷ 16 ∷ 21 ∷ 22 ∷ 23 ∷ 24 ∷ 25 ∷ 26 ∷ 27 ∷ 28 ∷ 29 ∷ 30 ∷ []) ++ drain ∷ []
