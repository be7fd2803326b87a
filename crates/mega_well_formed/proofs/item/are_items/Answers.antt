use Rattle.std.proofs.Common.{refl}
use Rattle.std.specs.List.{All}
use Rattle.mega_wal.specs.Items.{IsItem}
use Rattle.mega_well_formed.proofs.Deciding.{all_end, all_step}
use Rattle.mega_well_formed.proofs.item.are_items.Goals as goal

pub loop-item-preserved : goal.loop-item-preserved
loop-item-preserved c = all_step IsItem c.args.items.now c.loop-item.item-index c.item-item.result (All IsItem c.args.items.now) c.loop-item-test.true c.item-item.is c.loop-item.invariant (c.is_item.ensures.0 c.if-not-is_item.false)

pub returns : goal.returns
returns c = (λ is. all_end IsItem c.args.items.now c.loop-item.item-index (All IsItem c.args.items.now) c.loop-item-test.false c.loop-item.invariant, λ all. refl)
