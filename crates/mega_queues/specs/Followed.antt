-- What the queues of a node keep of its logs.
use Rattle.std.specs.Prelude.{◌≡◌, filter}
use Rattle.mega_base.specs.declared.names.GroupId.{GroupId}
use Rattle.mega_rules.specs.Queues.{sent_from}
use Rattle.mega_queues.specs.declared.queues.Queues.{Queues}
use Rattle.mega_queues.specs.Mail.{mail_of}
use Rattle.mega_queues.specs.Boxes.{Logs, is_awaited, mail_at, sent_at}

-- each group's mail is that of its log, and what it sent and is not entered is in its outbox, in order
pub record Represents (logs : Logs) (queues : Queues) : Type 0 where
  pub mail : (group : GroupId) → mail_at queues.mailboxes group ≡ mail_of (logs group)
  pub sent : (group : GroupId) → filter (is_awaited logs) (sent_at queues.outboxes group) ≡ filter (is_awaited logs) (sent_from group 1 (logs group))
