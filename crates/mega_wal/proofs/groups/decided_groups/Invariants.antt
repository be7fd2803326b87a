use Rattle.std.proofs.Common.{◌≡◌, ◌++◌}
use Rattle.std.specs.List.{filter_map}
use Rattle.mega_wal.specs.Kept.{decided_group}
use Rattle.mega_wal.proofs.groups.decided_groups.Given as goal

abbrev pub invariant-loop-group : goal.invariant-loop-group
invariant-loop-group l = l.found.items ++ filter_map decided_group l.group-iterator ≡ filter_map decided_group l.initial.group-iterator
