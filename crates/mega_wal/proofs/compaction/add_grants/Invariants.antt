use Rattle.std.proofs.Common.{◌≡◌, ◌++◌}
use Rattle.std.specs.List.{flat_map}
use Rattle.mega_wal.specs.Compaction.{grant_items}
use Rattle.mega_wal.proofs.compaction.add_grants.Given as goal

abbrev pub invariant-loop-node : goal.invariant-loop-node
invariant-loop-node l = l.items.items ++ flat_map grant_items l.node-iterator ≡ l.initial.items.items ++ flat_map grant_items l.initial.node-iterator
