use Rattle.std.proofs.Common.{subst}
use Rattle.std.specs.Io.KnownBytes.{Appends}
use Rattle.mega_page.proofs.Outcomes.{however}
use Rattle.mega_page.proofs.Giving.{unsent}
use Rattle.mega_page.proofs.page.Page.give.Goals as goal

pub returns-in_err-send_all-in-Ok-clause-front : goal.returns-in_err-send_all-in-Ok-clause-front
returns-in_err-send_all-in-Ok-clause-front g c = however _ c.from_residual.result (λ schema lines page.
    unsent schema c.args.self.now (g.O.Sink.held c.args.out.now) (g.O.Sink.held c.put.new.sink) (g.L.Link.sent c.args.link.now) (g.L.Link.sent c.send_all.new.link) c.in_err-send_all-in-Ok.ensures.err.0 lines
    (subst (Appends (g.O.Sink.held c.args.out.now) (g.O.Sink.held c.put.new.sink)) c.as_slice.ensures c.in-Ok.ensures.ok) c.in_err-send_all-in-Ok.ensures.err.1 page)
