use Rattle.mega_tally.proofs.Deciding.{keeps_decides}
use Rattle.mega_tally.proofs.logs.decide_in.Goals as goal

pub returns-in_ok-keep-in-Ok : goal.returns-in_ok-keep-in-Ok
returns-in_ok-keep-in-Ok c =
    keeps_decides c.args.logs.now c.taken-kept.new.logs c.keep.new.logs c.args.log c.args.position c.in-Ok.made.last c.taken-kept.result c.in-Ok.made.reach c.taken-kept.ensures.found c.taken-kept.ensures.left c.in-Ok.ensures
    c.in_ok-keep-in-Ok.ensures
