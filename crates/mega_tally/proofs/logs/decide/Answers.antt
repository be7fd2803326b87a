use Rattle.std.proofs.Common.{subst}
use Rattle.mega_base.specs.declared.names.GroupId.{GroupId}
use Rattle.mega_tally.specs.Following.{Decides}
use Rattle.mega_tally.proofs.Deciding.{follows_on, prefix_is}
use Rattle.mega_tally.proofs.logs.decide.Goals as goal

pub returns-in-Ok-clause-follows : goal.returns-in-Ok-clause-follows
returns-in-Ok-clause-follows c tape entry follows =
    let decides = subst (λ (g : GroupId). Decides c.args.logs.now c.decide_in.new.logs (g, c.args.node.0) c.args.position.0 c.in-Ok.last) c.in_ok-own.ensures c.in-Ok.ensures in
    follows_on c.args.logs.now c.decide_in.new.logs c.args.node c.args.group.now c.args.position c.in-Ok.last entry tape decides follows

pub returns-in-Ok-clause-through : goal.returns-in-Ok-clause-through
returns-in-Ok-clause-through c tape entry follows =
    let decides = subst (λ (g : GroupId). Decides c.args.logs.now c.decide_in.new.logs (g, c.args.node.0) c.args.position.0 c.in-Ok.last) c.in_ok-own.ensures c.in-Ok.ensures in
    prefix_is c.args.logs.now c.decide_in.new.logs c.args.node c.args.group.now c.args.position c.in-Ok.last entry tape decides follows
