use Rattle.std.proofs.Common.{List, drop}
use Rattle.mega_rules.specs.Met.{Met}
use Rattle.mega_voter.specs.Telling.{Tells}
use Rattle.mega_marks.specs.AreMarked.{MayMove}
use Rattle.mega_marks.specs.Marked.{AreWithin, Ascend}
use Rattle.mega_marks.proofs.Onward.{OnWay}
use Rattle.mega_marks.proofs.moving.all_move.Given as goal

abbrev pub invariant-loop-mark : goal.invariant-loop-mark
invariant-loop-mark g l = (met : List Met) → Tells l.voter.logs.kept met → Ascend l.marks → AreWithin met l.marks
    → MayMove l.schema l.fn.index met l.marks → OnWay l.schema l.index met l.marks (drop l.mark-index l.marks)
