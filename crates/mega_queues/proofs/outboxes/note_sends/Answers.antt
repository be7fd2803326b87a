use Rattle.mega_rules.specs.Queues.{posted}
use Rattle.mega_queues.proofs.Placing.{sent_after}
use Rattle.mega_queues.proofs.outboxes.note_sends.Goals as goal

pub returns : goal.returns
returns c = sent_after c.args.outboxes.now c.open.new.outboxes c.post_there.new.outboxes c.args.group.now (posted c.args.group.now c.args.position.0 0 c.args.entry.now.sends) c.in_ok-open.ensures.same c.in_ok-post_there.ensures
