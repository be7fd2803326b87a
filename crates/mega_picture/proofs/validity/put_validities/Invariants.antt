use Rattle.std.proofs.Common.{◌≡◌, ◌≤◌, ◌++◌, drop, length}
use Rattle.mega_picture.specs.Ends.{Ends}
use Rattle.mega_picture.specs.Validity.{validities_from}
use Rattle.mega_picture.proofs.validity.put_validities.Given as goal

abbrev pub invariant-loop-at : goal.invariant-loop-at
invariant-loop-at l =
    (l.out ≡ l.initial.out ++ validities_from l.sheet l.groups l.node l.at (drop l.at l.told))
    × (Ends l.ends l.groups l.node l.at (drop l.at l.told)
    × (l.at ≤ length l.told))

abbrev pub decreases-loop-at : goal.decreases-loop-at
decreases-loop-at l = l.at
