use Rattle.std.proofs.Common.{◌≡◌, ◌≤◌}
use Rattle.mega_picture.specs.Escape.{cut_at}
use Rattle.mega_picture.proofs.escape.cut_of.Given as goal

abbrev pub invariant-loop-at : goal.invariant-loop-at
invariant-loop-at l = (cut_at l.text l.at ≡ cut_at l.text l.most) × (l.at ≤ l.most)

abbrev pub decreases-loop-at : goal.decreases-loop-at
decreases-loop-at l = l.at
