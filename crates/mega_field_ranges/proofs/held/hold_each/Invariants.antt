use Rattle.std.proofs.Common.{All, take}
use Rattle.mega_field_ranges.proofs.held.hold_each.Given as goal

abbrev pub invariant-loop-item : goal.invariant-loop-item
invariant-loop-item g l = All g.T.Held.holds (take l.item-index l.items)
