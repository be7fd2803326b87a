use Rattle.std.proofs.Common.{◌≡◌, ◌+◌, true, drop}
use Rattle.std.specs.Prelude.{None}
use Rattle.mega_outcome.specs.Reads.{all_reads}
use Rattle.mega_outcome.specs.Answers.{rows_at, seen}
use Rattle.mega_outcome.specs.Steps.{with_front}
use Rattle.mega_outcome.specs.Looks.{Looks}
use Rattle.mega_outcome.proofs.reading.all_reads.Given as goal

abbrev pub invariant-loop-one : goal.invariant-loop-one
invariant-loop-one g l = record {
  counted : l.item ≡ l.first + l.one-index;
  left : g.V.Versions.is_told ≡ true
      → all_reads l.schema l.group (seen l.pending (rows_at (g.V.Versions.version l.fn.rows) l.at.0)) l.first l.reads
      ≡ with_front l.replies (all_reads l.schema l.group (seen l.pending (rows_at (g.V.Versions.version l.fn.rows) l.at.0)) l.item (drop l.one-index l.reads));
  looks : Looks g.V.Versions None l.fn.rows l.rows;
}
