use Rattle.std.proofs.Common.{◌≡◌, ◌+◌, drop, take}
use Rattle.mega_index.specs.Fitted.{table_in, table_of}
use Rattle.mega_backup_rows.proofs.tables.table_of.Given as goal

abbrev pub invariant-loop-place : goal.invariant-loop-place
invariant-loop-place l =
    table_in l.schema (l.place + 1) (drop l.place (take 64 l.schema.tables)) l.group l.key ≡ table_of l.schema l.group l.key
