use Rattle.std.proofs.Common.{◌≡◌, true, take}
use Rattle.mega_index.specs.Hints.{KeepsHints, writes_are_hinted}
use Rattle.mega_index.proofs.refresh.hint_writes.Given as goal

abbrev pub invariant-loop-write : goal.invariant-loop-write
invariant-loop-write l = record {
  kept : KeepsHints l.initial.hints l.hints;
  there : writes_are_hinted l.schema l.hints l.group (take l.write-index l.writes) ≡ true;
}
