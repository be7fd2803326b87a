use Rattle.std.proofs.Common.{rules}
use Rattle.mega_queues.proofs.Mailing.{nothing_seen}
use Rattle.mega_queues.proofs.mailbox.Mailbox.new.Goals as goal

pub returns : goal.returns
returns c = nothing_seen (record { entered = c.new-entered.result; handled = c.new-handled.result; waiting = c.new-waiting.result }) c.new-entered.ensures.empty c.new-handled.ensures.empty (search rules)
