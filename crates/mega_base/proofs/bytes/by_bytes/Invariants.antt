use Rattle.std.proofs.Common.{◌≡◌, ◌-◌, ◌≤◌, length, min}
use Rattle.mega_base.proofs.Ordered.{Rest}
use Rattle.mega_base.proofs.bytes.by_bytes.Given as goal

abbrev pub invariant-loop-i : goal.invariant-loop-i
invariant-loop-i l = (l.both ≡ min (length l.a) (length l.b)) × (l.i ≤ l.both) × Rest l.a l.b l.i

abbrev pub decreases-loop-i : goal.decreases-loop-i
decreases-loop-i l = ◌-◌ l.both l.i
