use Rattle.std.proofs.Common.{◌≡◌, ◌≤◌, ◌++◌, List, take}
use Rattle.mega_rules.specs.Logs.{log_of, prefix_of}
use Rattle.mega_rules.specs.Met.{Met}
use Rattle.mega_voter.specs.Telling.{Tells}
use Rattle.mega_marks.proofs.entries.entries_between.Given as goal

abbrev pub invariant-loop-before : goal.invariant-loop-before
invariant-loop-before g l = (met : List Met) → Tells l.voter.logs.kept met → l.from ≤ l.through → l.through ≤ prefix_of met l.group
    → take l.from (log_of met l.group) ++ l.entries.items ≡ take l.before (log_of met l.group)
