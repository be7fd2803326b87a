use Rattle.std.proofs.Common.{All, subst}
use Rattle.std.proofs.lemmas.List.{take_all}
use Rattle.std.proofs.lemmas.List.Elements.{All-more}
use Rattle.mega_field_ranges.specs.Held.{HoldsItem}
use Rattle.mega_field_ranges.proofs.items.hold.Goals as goal

pub loop-item-preserved : goal.loop-item-preserved
loop-item-preserved c =
    All-more HoldsItem c.args.items.now c.loop-item.item-index c.item-item.result c.loop-item-test.true c.loop-item.invariant (subst HoldsItem c.item-item.is c.hold_item.ensures)

pub returns : goal.returns
returns c = subst (All HoldsItem) (take_all c.loop-item.item-index c.args.items.now c.loop-item-test.false) c.loop-item.invariant
