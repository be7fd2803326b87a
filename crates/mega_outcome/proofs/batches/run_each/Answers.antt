use Rattle.std.proofs.Common.{rules}
use Rattle.std.specs.Prelude.{Some}
use Rattle.mega_outcome.specs.Looks.{Looks}
use Rattle.mega_outcome.proofs.OneMore.{looks_then}
use Rattle.mega_outcome.proofs.batches.run_each.Goals as goal

pub returns-in_err-run_next-clause-looks : goal.returns-in_err-run_next-clause-looks
returns-in_err-run_next-clause-looks g c =
    let h : Looks g.V.Versions (Some c.in_err-run_next.field-0.0) c.args.rows.now c.run_next.new.rows =
    looks_then g.V.Versions _ c.args.rows.now c.loop-txn.rows c.run_next.new.rows c.loop-txn.invariant.looks c.in_err-run_next.ensures.looks in
    search (rules, h)
