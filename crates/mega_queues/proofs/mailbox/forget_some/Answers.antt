use Rattle.std.proofs.Common.{rules}
use Rattle.mega_queues.proofs.Mailing.{none_waits}
use Rattle.mega_queues.proofs.mailbox.forget_some.Goals as goal

pub returns-in-empty : goal.returns-in-empty
returns-in-empty c = none_waits c.args.handled.now c.args.waiting.now.items (search rules)

pub returns-in-len1-up : goal.returns-in-len1-up
returns-in-len1-up c = c.forget.ensures
