use Rattle.std.proofs.Common.{◌≡◌, ◌++◌}
use Rattle.std.specs.Vec.Iter.{into_iter_items}
use Rattle.mega_handler_entries.proofs.keeping.extend.Given as goal

abbrev pub invariant-loop-write : goal.invariant-loop-write
invariant-loop-write l = l.kept.items ++ into_iter_items l.write-iterator ≡ l.initial.kept.items ++ into_iter_items l.initial.write-iterator
