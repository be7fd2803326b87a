use Rattle.std.proofs.Common.{◌≡◌, drop}
use Rattle.mega_row_writes.specs.Rows.{Rows, written}
use Rattle.mega_row_writes.specs.Pending.{seen}
use Rattle.mega_row_writes.proofs.noting.note.Given as goal

abbrev pub invariant-loop-write : goal.invariant-loop-write
invariant-loop-write l =
    (rows : Rows) → written l.writes (seen l.initial.pending rows) ≡ written (drop l.write-index l.writes) (seen l.pending rows)
