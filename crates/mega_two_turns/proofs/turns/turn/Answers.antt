use Rattle.mega_two_turns.proofs.Joining.{on_ok_then, one_turn}
use Rattle.mega_two_turns.proofs.turns.turn.Goals as goal

pub returns-clause-driven : goal.returns-clause-driven
returns-clause-driven g c =
    on_ok_then c.receive.result
    (λ got. λ still. (
      (c.now-now.result, got.0),
      one_turn c.args.node c.args.patience c.args.driving.now c.go_out.new.self c.receive.new.driving (g.C.Clock.readings c.args.clock.now) (g.C.Clock.readings c.now-now.new.self) (g.L.Link.taken c.args.link.now) (g.L.Link.taken c.go_out.new.link) (g.L.Link.taken c.receive.new.link)
          (g.L.Link.sent c.args.link.now) (g.L.Link.sent c.go_out.new.link) (g.L.Link.sent c.receive.new.link) c.now-now.result got.0 still c.now-now.ensures.told c.in_ok-go_out.ensures.taken got.1.0 c.in_ok-go_out.ensures.sent c.receive.ensures.sent
          c.in_ok-go_out.ensures.driven got.1.1,
    ))
    c.receive.ensures.driven
