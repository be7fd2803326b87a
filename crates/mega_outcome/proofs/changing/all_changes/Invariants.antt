use Rattle.std.proofs.Common.{◌≡◌, ◌+◌, true, drop}
use Rattle.std.specs.Prelude.{None}
use Rattle.mega_outcome.specs.Changes.{all_changes}
use Rattle.mega_outcome.specs.Answers.{rows_at, seen}
use Rattle.mega_outcome.specs.Steps.{with_front}
use Rattle.mega_outcome.specs.Looks.{Looks}
use Rattle.mega_outcome.proofs.changing.all_changes.Given as goal

abbrev pub invariant-loop-one : goal.invariant-loop-one
invariant-loop-one g l = record {
  counted : l.item ≡ l.first + l.one-index;
  left : g.V.Versions.is_told ≡ true
      → all_changes l.schema l.group (seen l.earlier (rows_at (g.V.Versions.version l.fn.rows) l.at.0)) l.first l.changes
      ≡ with_front l.writes (all_changes l.schema l.group (seen l.newest (seen l.earlier (rows_at (g.V.Versions.version l.fn.rows) l.at.0))) l.item (drop l.one-index l.changes));
  looks : Looks g.V.Versions None l.fn.rows l.rows;
}
