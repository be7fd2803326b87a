use Rattle.std.proofs.Common.{◌≡◌, ◌+◌, ◌≤◌, List}
use Rattle.mega_wal.specs.declared.item.JournalItem.{JournalItem}
use Rattle.mega_wal.specs.Kept.{Represents}
use Rattle.mega_replica.specs.Stored.{Counts, GroupLogs, log_in}
use Rattle.mega_replica.specs.Following.{FollowsGroup, count_of}
use Rattle.mega_replica.specs.Puts.{OnlyPuts}
use Rattle.mega_replica.proofs.storing.store_some.Given as goal

abbrev pub invariant-loop-passed : goal.invariant-loop-passed
invariant-loop-passed g l = record {
  place : l.progress.entries ≡ l._passed;
  goes : (items : List JournalItem) (log : GroupLogs) (counts : Counts) → Represents l.logs.kept items → log l.group ≡ log_in items l.group
      → FollowsGroup (g.V.Versions.version l.fn.rows) l.group l.fn.progress log counts
      → FollowsGroup (g.V.Versions.version l.rows) l.group l.progress log counts × (count_of l.fn.progress (log l.group) ≤ count_of l.progress (log l.group))
      × (count_of l.progress (log l.group) + l.left ≡ count_of l.fn.progress (log l.group) + l.most);
  only : OnlyPuts g.V.Versions l.fn.rows l.rows;
}
