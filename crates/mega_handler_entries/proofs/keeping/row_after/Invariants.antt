use Rattle.std.proofs.Common.{◌≡◌, take}
use Rattle.std.specs.Option.{option_copied}
use Rattle.mega_index.specs.Rows.{row_under, written}
use Rattle.mega_handler_entries.proofs.keeping.row_after.Given as goal

abbrev pub invariant-loop-write : goal.invariant-loop-write
invariant-loop-write l = option_copied l.found ≡ written (take l.write-index l.writes) (row_under l.rows) l.key
