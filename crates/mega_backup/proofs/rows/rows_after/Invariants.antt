use Rattle.std.proofs.Common.{◌≡◌, drop, []}
use Rattle.mega_index.specs.Rows.{list_after}
use Rattle.mega_backup.proofs.rows.rows_after.Given as goal

abbrev pub invariant-loop-entry : goal.invariant-loop-entry
invariant-loop-entry l = list_after (drop l.entry-index l.entries) l.rows.entries ≡ list_after l.entries []
