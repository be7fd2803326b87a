use Rattle.std.proofs.Common.{◌≡◌, true, drop, length}
use Rattle.std.specs.Prelude.{None, fold}
use Rattle.mega_index.specs.Rows.{Rows, written}
use Rattle.mega_outcome.specs.Outcome.{with_next, no_batch}
use Rattle.mega_outcome.specs.Answers.{rows_at, seen}
use Rattle.mega_outcome.specs.Looks.{Looks}
use Rattle.mega_outcome.proofs.batches.run_each.Given as goal

abbrev pub invariant-loop-txn : goal.invariant-loop-txn
invariant-loop-txn g l = record {
  counted : length l.batch.results ≡ l.txn-index;
  left : g.V.Versions.is_told ≡ true
      → fold (with_next l.schema l.group (rows_at (g.V.Versions.version l.fn.rows) l.at.0)) no_batch l.txns
      ≡ fold (with_next l.schema l.group (rows_at (g.V.Versions.version l.fn.rows) l.at.0)) l.batch (drop l.txn-index l.txns);
  noted : (rows : Rows) → seen l.pending rows ≡ written l.batch.writes rows;
  looks : Looks g.V.Versions None l.fn.rows l.rows;
}
