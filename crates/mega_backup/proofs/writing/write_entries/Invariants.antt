use Rattle.std.proofs.Common.{◌≤◌, List}
use Rattle.mega_io.proofs.Writing.{Written}
use Rattle.mega_wal.specs.declared.item.JournalItem.{JournalItem}
use Rattle.mega_wal.specs.History.{decided_of}
use Rattle.mega_wal.specs.Kept.{Represents}
use Rattle.mega_backup.proofs.Logged.{text_from}
use Rattle.mega_backup.proofs.writing.write_entries.Given as goal

abbrev pub invariant-loop-n : goal.invariant-loop-n
invariant-loop-n g l = record {
  written : (items : List JournalItem) → Represents l.logs.kept items
      → Written (g.O.Sink.held l.fn.out) (g.O.Sink.held l.out) (text_from (decided_of items l.group) l.most 0) (text_from (decided_of items l.group) l.most l.n);
  count : g.O.Sink.faults l.fn.out ≤ g.O.Sink.faults l.out;
}
