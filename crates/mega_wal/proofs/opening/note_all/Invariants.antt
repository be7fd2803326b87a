use Rattle.std.proofs.Common.{◌++◌, List, take}
use Rattle.std.specs.Prelude.{reverse}
use Rattle.mega_wal.specs.declared.item.JournalItem.{JournalItem}
use Rattle.mega_wal.specs.Kept.{Represents}
use Rattle.mega_wal.proofs.opening.note_all.Given as goal

abbrev pub invariant-loop-item : goal.invariant-loop-item
invariant-loop-item l = (before : List JournalItem) → Represents l.fn.kept before → Represents l.kept (reverse (take l.item-index l.items) ++ before)
