use Rattle.std.proofs.Common.{◌≡◌, length, take}
use Rattle.std.specs.List.{flat_map}
use Rattle.mega_index.specs.of_entry.Entries.{write_text}
use Rattle.mega_outcome.proofs.lengths.writes_length.Given as goal

abbrev pub invariant-loop-write : goal.invariant-loop-write
invariant-loop-write l = l.total ≡ length (flat_map write_text (take l.write-index l.writes))
