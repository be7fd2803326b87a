use Rattle.std.proofs.Common.{subst}
use Rattle.std.specs.List.{AllByRecursion}
use Rattle.std.proofs.lemmas.List.Elements.{recursion_from_All}
use Rattle.mega_field_ranges.proofs.held.ItemsHeld.hold.Goals as goal

pub returns : goal.returns
returns g c = subst (AllByRecursion g.T.Held.holds) c.as_slice.ensures (recursion_from_All g.T.Held.holds _ c.hold_each.ensures)
