use Rattle.std.proofs.Common.{[], List, subst}
use Rattle.mega_serve.specs.declared.waiting.Waiting.{Waiting as Waits}
use Rattle.mega_serve.specs.Turns.{Runs}
use Rattle.mega_serve.proofs.Ending.{ends_at_once, none_begun}
use Rattle.mega_page.proofs.Outcomes.{however}
use Rattle.mega_serve.proofs.serving.serve.Goals as goal

pub returns-in-Ok-clause-served : goal.returns-in-Ok-clause-served
returns-in-Ok-clause-served g c =
    let found = c.in-Ok.ensures.gone in (
      found.0,
      (
        found.1.0,
        (
          c.turn_often.new.waiting.items,
          subst (λ (waiting : List Waits). Runs g.S.Steps c.args.node.now waiting c.turn_often.new.node c.turn_often.new.waiting.items (g.O.Sink.held c.args.out.now) (g.O.Sink.held c.turn_often.new.out) (g.L.Link.sent c.args.link.now) (g.L.Link.sent c.turn_often.new.link) found.0) c.new-waiting.ensures.items found.1.1,
        ),
      ),
    )

pub returns-in_err-room-clause-front : goal.returns-in_err-room-clause-front
returns-in_err-room-clause-front g c = however _ c.from_residual.result ([], (none_begun _ _, ends_at_once g.S.Steps c.args.node.now [] _ _))
