-- The statuses with which a call ends.
use Rattle.std.specs.Prelude.{ℕ, Result, Ok, Err}
use Rattle.mega_node.specs.declared.stop.Stop.{Stop}
use Rattle.mega_node.specs.declared.stop.Stop.TheVariants.{BadRecord, Device, Full, Header, Link, NoMemory, Sink, Source, StartsFull, Unformed}

-- the status of a stop
abbrev pub status_of : Stop → ℕ
status_of (Header rule) = 3
status_of Source = 5
status_of Sink = 6
status_of Device = 7
status_of NoMemory = 8
status_of Unformed = 8
status_of Link = 9
status_of (Full length) = 10
status_of StartsFull = 10
status_of (BadRecord number) = 16

-- the status of a call that came to this
abbrev pub ended_with : Result (Unit {0}) Stop → ℕ
ended_with (Ok done) = 0
ended_with (Err stop) = status_of stop
