use Rattle.std.proofs.Common.{◌≡◌, drop}
use Rattle.mega_index.specs.Rows.{list_written}
use Rattle.mega_backup.proofs.rows.change_all.Given as goal

abbrev pub invariant-loop-write : goal.invariant-loop-write
invariant-loop-write l = list_written (drop l.write-index l.writes) l.rows.entries ≡ list_written l.writes l.initial.rows.entries
