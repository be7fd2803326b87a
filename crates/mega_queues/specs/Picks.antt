-- What may be entered or handled next, of what waits.
use Rattle.std.specs.Prelude.{◌&&◌, Bool, true, false, Option, Some, None}
use Rattle.std.specs.BTreeMap.{BTreeMap}
use Rattle.mega_base.specs.declared.names.GroupId.{GroupId}
use Rattle.mega_base.specs.declared.names.OpId.{OpId}
use Rattle.mega_entry.specs.declared.content.Enter.{Enter}
use Rattle.mega_rules.specs.Queues.{Posted, enter_entry, is_short}
use Rattle.mega_queues.specs.declared.mailbox.Mailbox.{Mailbox}
use Rattle.mega_queues.specs.Mail.{first_of}
use Rattle.mega_queues.specs.Boxes.{awaits, mail_at}

-- a message is not entered, and its enter entry is short enough
abbrev pub can_enter : OpId → BTreeMap GroupId Mailbox → Posted → Bool
can_enter op boxes one = awaits boxes one && is_short (enter_entry op one.message)

abbrev pub has_one : Option Enter → Bool
has_one None = false
has_one (Some message) = true

-- a group has a message that is entered and not handled
abbrev pub has_mail : BTreeMap GroupId Mailbox → GroupId → Bool
has_mail boxes group = has_one (first_of (mail_at boxes group).waiting)
