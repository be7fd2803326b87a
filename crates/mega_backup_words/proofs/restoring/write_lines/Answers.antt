use Rattle.std.proofs.Common.{arith}
use Rattle.mega_backup_words.proofs.Rows.{row_cut, row_written, rows_written}
use Rattle.mega_backup_words.proofs.restoring.write_lines.Goals as goal

pub returns-in-Err-clause-err : goal.returns-in-Err-clause-err
returns-in-Err-clause-err g c =
    row_cut (g.O.Sink.held c.args.out.now) (g.O.Sink.held c.loop-txn.out) (g.O.Sink.held c.write_line.new.out) c.args.schema.now c.args.txns.now c.loop-txn.txn-index c.txn-item.result
    c.loop-txn-test.true c.txn-item.is c.loop-txn.invariant.written c.in-Err.ensures.err

pub returns-clause-ok : goal.returns-clause-ok
returns-clause-ok g c =
    rows_written (g.O.Sink.held c.args.out.now) (g.O.Sink.held c.loop-txn.out) c.args.schema.now c.args.txns.now c.loop-txn.txn-index (omega (arith, c.loop-txn-test.false)) c.loop-txn.invariant.written

pub loop-txn-preserved : goal.loop-txn-preserved
loop-txn-preserved g c = record {
  written = row_written (g.O.Sink.held c.args.out.now) (g.O.Sink.held c.loop-txn.out) (g.O.Sink.held c.write_line.new.out) c.args.schema.now c.args.txns.now c.loop-txn.txn-index c.txn-item.result
      c.loop-txn-test.true c.txn-item.is c.loop-txn.invariant.written c.in-Ok.ensures.ok;
  count = omega (arith, c.loop-txn.invariant.count, c.write_line.ensures.count);
}
