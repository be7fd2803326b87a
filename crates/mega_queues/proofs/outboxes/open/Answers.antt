use Rattle.mega_queues.proofs.Placing.{sent_opened}
use Rattle.mega_queues.proofs.outboxes.open.Goals as goal

pub returns-clause-same : goal.returns-clause-same
returns-clause-same c = sent_opened c.args.outboxes.now c.insert.new.self c.args.group.now c.in_ok-own.own c.new.result c.contains_key.result c.in_ok-own.ensures c.contains_key.ensures c.if-contains_key.false c.new.ensures.items c.in_ok-insert.ensures.updates.0
