use Rattle.std.proofs.Common.{◌≡◌, ◌≤◌, List, take}
use Rattle.mega_queues.specs.Boxes.{Logs}
use Rattle.mega_queues.specs.Followed.{Represents}
use Rattle.mega_rules.specs.Logs.{log_of, prefix_of}
use Rattle.mega_rules.specs.Met.{Met}
use Rattle.mega_voter.specs.Telling.{Tells}
use Rattle.mega_pumps.specs.Reach.{with_log}
use Rattle.mega_pumps.proofs.noting.note_from.Given as goal

abbrev pub invariant-loop-count : goal.invariant-loop-count
invariant-loop-count g l =
    (met : List Met) (logs : Logs) → Tells l.voter.logs.kept met → l.from ≤ l.through → l.through ≤ prefix_of met l.group
    → Represents logs l.initial.queues → logs l.group ≡ take l.from (log_of met l.group)
    → (l.count ≤ l.through) × Represents (with_log logs l.group (take l.count (log_of met l.group))) l.queues
