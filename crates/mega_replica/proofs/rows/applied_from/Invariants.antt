use Rattle.std.proofs.Common.{◌≡◌, ◌+◌, ◌≤◌, List, drop, length}
use Rattle.mega_wal.specs.declared.item.JournalItem.{JournalItem}
use Rattle.mega_wal.specs.Kept.{Represents}
use Rattle.mega_replica.specs.Applying.{applied}
use Rattle.mega_replica.specs.Stored.{log_in}
use Rattle.mega_replica.specs.Following.{IsPlace, count_of}
use Rattle.mega_replica.proofs.rows.applied_from.Given as goal

abbrev pub invariant-loop-entries : goal.invariant-loop-entries
invariant-loop-entries g l = (items : List JournalItem) → Represents l.logs.kept items → IsPlace l.fn.progress (log_in items l.group)
    → (l.entries ≤ length (log_in items l.group)) × (l.entries + applied (drop l.entries (log_in items l.group)) l.left ≡ applied (log_in items l.group) (count_of l.fn.progress (log_in items l.group)))
