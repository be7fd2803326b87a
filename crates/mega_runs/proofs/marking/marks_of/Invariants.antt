use Rattle.std.proofs.Common.{◌≡◌, take}
use Rattle.std.specs.Prelude.{map}
use Rattle.mega_runs.specs.Stores.{mark_of_pair}
use Rattle.mega_runs.proofs.marking.marks_of.Given as goal

abbrev pub invariant-loop-mark : goal.invariant-loop-mark
invariant-loop-mark l = l.made ≡ map mark_of_pair (take l.mark-index l.marks)
