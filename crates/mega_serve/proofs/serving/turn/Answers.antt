use Rattle.std.proofs.Common.{None}
use Rattle.mega_serve.proofs.Ending.{begun_read, begun_received, ended_once}
use Rattle.mega_serve.proofs.Joining.{has_turned, turned_once}
use Rattle.mega_serve.proofs.serving.turn.Goals as goal

pub returns-in-Err-clause-front : goal.returns-in-Err-clause-front
returns-in-Err-clause-front g c = ((c.now-now.result, None), (begun_read _ _ _ _ c.now-now.result c.now-now.ensures.latest c.now-now.ensures.told c.in-Err.ensures.taken, λ h now serving may. c.in-Err.ensures.front h now serving may.0))

pub returns-in-Ok-receive_one-clause-gone : goal.returns-in-Ok-receive_one-clause-gone
returns-in-Ok-receive_one-clause-gone g c =
    let one = c.in-Ok-receive_one.ensures.gone in (
      (c.now-now.result, one.0),
      (
        has_turned _ _ _ _ _ c.now-now.result one.0 c.now-now.ensures.latest c.now-now.ensures.told c.in-Ok.ensures.taken one.1.0,
        turned_once g.S.Steps c.args.node.now c.tick.new.node c.receive_one.new.node _ _ _ _ _ _ _ _ _ c.now-now.result one.0 c.in-Ok.ensures.members c.in-Ok.ensures.me c.in-Ok.ensures.gone one.1.1,
      ),
    )

pub returns-in-Err-receive_one-clause-front : goal.returns-in-Err-receive_one-clause-front
returns-in-Err-receive_one-clause-front g c =
    let one = c.in-Err-receive_one.ensures.front in (
      (c.now-now.result, one.0),
      (
        begun_received _ _ _ _ _ c.now-now.result one.0 c.now-now.ensures.latest c.now-now.ensures.told c.in-Ok.ensures.taken one.1.0,
        ended_once g.S.Steps c.args.node.now c.tick.new.node _ _ _ _ _ _ _ _ c.now-now.result one.0 c.in-Ok.ensures.members c.in-Ok.ensures.me c.in-Ok.ensures.gone one.1.1,
      ),
    )
