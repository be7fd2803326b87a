use Rattle.mega_queues.proofs.Picking.{new_follows}
use Rattle.mega_queues.proofs.queues.Queues.new.Goals as goal

pub returns : goal.returns
returns c = new_follows (record { alloc = c.args.alloc; mailboxes = c.new-mailboxes.result; outboxes = c.new-outboxes.result }) c.new-mailboxes.ensures.empty c.new-outboxes.ensures.empty
