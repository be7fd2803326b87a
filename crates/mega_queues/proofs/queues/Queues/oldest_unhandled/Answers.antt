use Rattle.std.proofs.Common.{◌∙◌}
use Rattle.mega_queues.specs.Boxes.{mail_at}
use Rattle.mega_queues.proofs.Picking.{oldest_is}
use Rattle.mega_queues.proofs.queues.Queues.oldest_unhandled.Goals as goal

pub returns : goal.returns
returns c = λ logs kept. c.oldest_unhandled.ensures ∙ oldest_is (logs c.args.group.now) (mail_at c.args.self.now.mailboxes c.args.group.now) (kept.mail c.args.group.now)
