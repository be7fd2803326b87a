use Rattle.std.proofs.Common.{◌≡◌, ◌+◌, drop}
use Rattle.mega_index.specs.Fits.{long_in}
use Rattle.mega_index.proofs.long.long_in.Given as goal

abbrev pub invariant-loop-place : goal.invariant-loop-place
invariant-loop-place l =
    long_in 1 l.indexes l.table l.group l.key l.row ≡ long_in (l.place + 1) (drop l.place l.indexes) l.table l.group l.key l.row
