use Rattle.std.proofs.Common.{inr, refl}
use Rattle.mega_node.proofs.Turned.{err_then, ok_then}
use Rattle.mega_node.proofs.running.run_over.Goals as goal

pub returns-clause-ran : goal.returns-clause-ran
returns-clause-ran g c =
    let opened = c.in-Ok.ensures.opened in
    ok_then c.serve_begun-ended.result.0
    (λ so. (
      c.serve_begun-ended.result.1,
      refl,
      so (g.H.QueueHandlers.meant c.args.handlers) c.args.cluster c.args.number.of c.args.log opened.0 opened.1.are_found (c.in-Ok-start_node.ensures.started c.args.log opened.0 opened.1),
    ))
    c.serve_begun-ended.ensures.ran

pub returns-clause-cut : goal.returns-clause-cut
returns-clause-cut g c =
    let opened = c.in-Ok.ensures.opened in
    err_then c.serve_begun-ended.result.0
    (λ so. inr (so (g.H.QueueHandlers.meant c.args.handlers) c.args.cluster c.args.number.of c.args.log opened.0 opened.1.are_found (c.in-Ok-start_node.ensures.started c.args.log opened.0 opened.1)))
    c.serve_begun-ended.ensures.halted
