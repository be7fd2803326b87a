use Rattle.std.proofs.Common.{◌≡◌, true}
use Rattle.std.specs.Prelude.{None}
use Rattle.std.specs.BTreeMap.{get}
use Rattle.mega_index.specs.Rows.{key_cmp}
use Rattle.mega_outcome.specs.Answers.{rows_at}
use Rattle.mega_outcome.specs.Looks.{Looks}
use Rattle.mega_view.specs.Scanning.{AreThrough}
use Rattle.mega_view.proofs.tables.table_rows.Given as goal

abbrev pub invariant-loop-table : goal.invariant-loop-table
invariant-loop-table g l = record {
  counted : l.number ≡ l.table-index;
  through : g.V.Versions.is_told ≡ true → AreThrough l.schema l.fn.group.key (rows_at (g.V.Versions.version l.fn.rows) l.at.0) l.number (get key_cmp l.found);
  looks : Looks g.V.Versions None l.fn.rows l.rows;
}
