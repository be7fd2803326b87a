use Rattle.std.proofs.Common.{◌≡◌, length}
use Rattle.std.specs.Cmp.Lexicographic.{slice_cmp}
use Rattle.std.specs.Ordering.{nat_cmp}
use Rattle.mega_base.proofs.bytes.order.Given as goal

abbrev pub invariant-loop-behind : goal.invariant-loop-behind
invariant-loop-behind l = slice_cmp nat_cmp l.one l.other ≡ slice_cmp nat_cmp l.a l.b

abbrev pub decreases-loop-behind : goal.decreases-loop-behind
decreases-loop-behind l = length l.one
