use Rattle.std.proofs.Common.{◌≤◌, drop}
use Rattle.mega_io.proofs.Writing.{Written}
use Rattle.mega_backup_words.specs.Inputs.{lines_text}
use Rattle.mega_backup_words.proofs.restoring.write_lines.Given as goal

abbrev pub invariant-loop-txn : goal.invariant-loop-txn
invariant-loop-txn g l = record {
  written : Written (g.O.Sink.held l.fn.out) (g.O.Sink.held l.out) (lines_text l.schema l.txns) (lines_text l.schema (drop l.txn-index l.txns));
  count : g.O.Sink.faults l.fn.out ≤ g.O.Sink.faults l.out;
}
