use Rattle.std.proofs.Common.{◌≡◌, ◌+◌, drop, take}
use Rattle.mega_wal.specs.Kept.{Represents}
use Rattle.mega_wal.specs.Records.{bad_from, first_bad, history_of}
use Rattle.mega_wal.proofs.opening.load.Given as goal

abbrev pub invariant-loop-body : goal.invariant-loop-body
invariant-loop-body l = Represents l.kept (history_of (take l.body-index l.bodies))
    × (l.number ≡ l.body-index + 1)
    × (bad_from l.number (drop l.body-index l.bodies) ≡ first_bad l.bodies)
