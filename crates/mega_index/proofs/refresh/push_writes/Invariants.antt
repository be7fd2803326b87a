use Rattle.std.proofs.Common.{◌≡◌, ◌++◌, take}
use Rattle.mega_index.proofs.refresh.push_writes.Given as goal

abbrev pub invariant-loop-write : goal.invariant-loop-write
invariant-loop-write l = l.writes.items ≡ l.initial.writes.items ++ take l.write-index l.entry
