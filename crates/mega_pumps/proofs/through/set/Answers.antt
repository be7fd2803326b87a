use Rattle.mega_pumps.proofs.Caught.{set_there}
use Rattle.mega_pumps.proofs.through.set.Goals as goal

pub returns : goal.returns
returns c = set_there c.args.all.now c.insert.new.self c.args.group.now c.in_ok-own.own c.args.through c.in_ok-own.ensures c.in_ok-insert.ensures.updates.0
