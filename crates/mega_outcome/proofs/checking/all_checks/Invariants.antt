use Rattle.std.proofs.Common.{◌≡◌, ◌+◌, true, drop}
use Rattle.std.specs.Prelude.{None}
use Rattle.mega_outcome.specs.Checks.{all_checks}
use Rattle.mega_outcome.specs.Answers.{rows_at, seen}
use Rattle.mega_outcome.specs.Looks.{Looks}
use Rattle.mega_outcome.proofs.checking.all_checks.Given as goal

abbrev pub invariant-loop-one : goal.invariant-loop-one
invariant-loop-one g l = record {
  counted : l.item ≡ l.first + l.one-index;
  left : g.V.Versions.is_told ≡ true
      → all_checks l.schema l.group (seen l.pending (rows_at (g.V.Versions.version l.fn.rows) l.at.0)) l.first l.checks
      ≡ all_checks l.schema l.group (seen l.pending (rows_at (g.V.Versions.version l.fn.rows) l.at.0)) l.item (drop l.one-index l.checks);
  looks : Looks g.V.Versions None l.fn.rows l.rows;
}
