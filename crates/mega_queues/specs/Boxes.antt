-- What all logs sent, entered and handled.
use Rattle.std.specs.Prelude.{◌≡◌, ◌++◌, ◌&&◌, if◌then◌else◌, Bool, false, not, List, [], ◌∷◌, filter, map, Option, Some, None}
use Rattle.std.specs.BTreeMap.{BTreeMap, get}
use Rattle.mega_base.specs.declared.names.GroupId.{GroupId}
use Rattle.mega_entry.specs.declared.content.Content.{Content}
use Rattle.mega_wal.specs.Same.{same_group}
use Rattle.mega_wal.specs.History.{group_cmp}
use Rattle.mega_rules.specs.Queues.{Log, Posted, entries_of, is_named, names_entered}
use Rattle.mega_queues.specs.declared.mailbox.Mailbox.{Mailbox}
use Rattle.mega_queues.specs.Mail.{Mail, no_mail, seen}
use Rattle.std.specs.Global.{Vec}

-- the mail of a group
abbrev pub mail_in : Option Mailbox → Mail
mail_in None = no_mail
mail_in (Some box) = seen box

abbrev pub mail_at : BTreeMap GroupId Mailbox → GroupId → Mail
mail_at boxes group = mail_in (get group_cmp boxes group)

-- what of its sends a group's outbox holds
abbrev pub sent_in_box : Option (Vec Posted) → List Posted
sent_in_box None = []
sent_in_box (Some box) = box.items

abbrev pub sent_at : BTreeMap GroupId (Vec Posted) → GroupId → List Posted
sent_at outboxes group = sent_in_box (get group_cmp outboxes group)

-- a message is not entered in its receiver's log
abbrev pub awaits : BTreeMap GroupId Mailbox → Posted → Bool
awaits boxes one = not ((mail_at boxes one.to).entered (one.message).name)

-- messages are taken out that do not pass the test, and no others
abbrev pub Sheds : (Posted → Bool) → BTreeMap GroupId (Vec Posted) → BTreeMap GroupId (Vec Posted) → Type 0
Sheds test old new = (group : GroupId) → filter test (sent_at new group) ≡ filter test (sent_at old group)

-- of the first two messages only the first does not pass the test
abbrev pub is_first_shed : (Posted → Bool) → List Posted → Bool
is_first_shed test [] = false
is_first_shed test (first ∷ []) = not (test first)
is_first_shed test (first ∷ next ∷ more) = not (test first) && test next

-- the log of each group
abbrev pub Logs : Type 0
Logs = GroupId → List Content

-- a group's log with one entry more
abbrev pub noted : Logs → GroupId → Content → Logs
noted logs group entry other = if same_group group other then logs group ++ entry ∷ [] else logs other

-- a message is not entered in the log of its receiver
abbrev pub is_awaited : Logs → Posted → Bool
is_awaited logs one = not (is_named (one.message).name (names_entered (logs one.to)))

-- the logs of these groups
abbrev pub logs_of : Logs → List GroupId → List Log
logs_of logs groups = map (λ (group : GroupId). record { group = group; entries = logs group }) groups

-- no other group has entries
abbrev pub AreAll : Logs → List GroupId → Type 0
AreAll logs groups = (group : GroupId) → entries_of group (logs_of logs groups) ≡ logs group
