use Rattle.std.proofs.Common.{◌≡◌, ◌+◌, [], drop}
use Rattle.mega_index.specs.Entries.{local_in}
use Rattle.mega_index.proofs.local.local_in.Given as goal

abbrev pub invariant-loop-place : goal.invariant-loop-place
invariant-loop-place l =
    local_in 1 l.indexes l.table l.group l.key l.row []
    ≡ local_in (l.place + 1) (drop l.place l.indexes) l.table l.group l.key l.row l.entries.entries
