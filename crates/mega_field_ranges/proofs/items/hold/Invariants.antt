use Rattle.std.proofs.Common.{All, take}
use Rattle.mega_field_ranges.specs.Held.{HoldsItem}
use Rattle.mega_field_ranges.proofs.items.hold.Given as goal

abbrev pub invariant-loop-item : goal.invariant-loop-item
invariant-loop-item l = All HoldsItem (take l.item-index l.items)
