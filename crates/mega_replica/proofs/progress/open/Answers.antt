use Rattle.mega_replica.proofs.Opened.{opened}
use Rattle.mega_replica.proofs.progress.open.Goals as goal

pub returns-clause-same : goal.returns-clause-same
returns-clause-same c = opened c.args.all.now c.insert.new.self c.args.group.now c.in_ok-own.own c.contains_key.result c.in_ok-own.ensures c.contains_key.ensures c.if-contains_key.false c.in_ok-insert.ensures.updates.0
