use Rattle.std.proofs.Common.{◌≡◌, ◌++◌}
use Rattle.std.specs.List.{flat_map}
use Rattle.mega_wal.specs.Compaction.{slot_items}
use Rattle.mega_wal.proofs.compaction.add_log.Given as goal

abbrev pub invariant-loop-at : goal.invariant-loop-at
invariant-loop-at l = l.items.items ++ flat_map (slot_items l.group) l.at-iterator ≡ l.initial.items.items ++ flat_map (slot_items l.group) l.initial.at-iterator
