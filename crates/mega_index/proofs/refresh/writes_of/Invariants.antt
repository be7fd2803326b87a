use Rattle.std.proofs.Common.{◌≡◌, ◌++◌, drop}
use Rattle.mega_index.specs.Marks.{writes_of}
use Rattle.mega_index.proofs.refresh.writes_of.Given as goal

abbrev pub invariant-loop-entry : goal.invariant-loop-entry
invariant-loop-entry l = writes_of l.entries ≡ l.writes.items ++ writes_of (drop l.entry-index l.entries)
