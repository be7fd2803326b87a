use Rattle.std.proofs.Common.{None, subst, sym}
use Rattle.mega_serve.specs.Turns.{Proceeds, schema_of}
use Rattle.mega_serve.proofs.Going.{stays}
use Rattle.mega_serve.proofs.serving.receive_one.Goals as goal

pub returns-in-None-clause-gone : goal.returns-in-None-clause-gone
returns-in-None-clause-gone g c = (
  None,
  (
    c.in-None.ensures.taken,
    λ h now serving may.
        subst (λ (sent : _). Proceeds g.S.Steps h c.args.node.now c.args.waiting.now.items (schema_of g.S.Steps c.args.node.now) (g.O.Sink.held c.args.out.now) (g.O.Sink.held c.args.out.now) (g.L.Link.sent c.args.link.now) sent now now) (sym c.in-None.ensures.sent)
        (stays g.S.Steps h c.args.node.now c.args.waiting.now.items (schema_of g.S.Steps c.args.node.now) (g.O.Sink.held c.args.out.now) (g.L.Link.sent c.args.link.now) now serving),
  ),
)
