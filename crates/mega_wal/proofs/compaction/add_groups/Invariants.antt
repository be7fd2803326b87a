use Rattle.std.proofs.Common.{◌≡◌, ◌++◌}
use Rattle.std.specs.List.{flat_map, AllByRecursion}
use Rattle.mega_base.specs.declared.names.GroupId.{GroupId}
use Rattle.mega_wal.specs.declared.groups.Log.{Log}
use Rattle.mega_wal.specs.Compaction.{log_items, IsOrderedLog}
use Rattle.mega_wal.proofs.compaction.add_groups.Given as goal

abbrev pub invariant-loop-group : goal.invariant-loop-group
invariant-loop-group l = (l.items.items ++ flat_map log_items l.group-iterator ≡ l.initial.items.items ++ flat_map log_items l.initial.group-iterator)
    × (AllByRecursion (λ (e : GroupId × Log). IsOrderedLog e.1) l.group-iterator → AllByRecursion (λ (e : GroupId × Log). IsOrderedLog e.1) l.initial.group-iterator)
