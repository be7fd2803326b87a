use Rattle.std.proofs.Common.{◌≡◌, ◌≤◌, List, take}
use Rattle.mega_queues.specs.Mail.{mail_of, seen}
use Rattle.mega_rules.specs.Logs.{log_of, prefix_of}
use Rattle.mega_rules.specs.Met.{Met}
use Rattle.mega_voter.specs.Telling.{Tells}
use Rattle.mega_pumps.proofs.mailing.mailbox_at.Given as goal

abbrev pub invariant-loop-count : goal.invariant-loop-count
invariant-loop-count g l =
    (met : List Met) → Tells l.voter.logs.kept met → l.through ≤ prefix_of met l.group → (l.count ≤ l.through) × (seen l.mailbox ≡ mail_of (take l.count (log_of met l.group)))
