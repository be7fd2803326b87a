use Rattle.mega_well_formed.proofs.Room.{begins, place_end, place_fails, place_step}
use Rattle.mega_well_formed.proofs.formed.room_behind_items.Goals as goal

pub loop-item-preserved : goal.loop-item-preserved
loop-item-preserved g c =
    place_step g.T.Field.fits g.T.Field.spells c.args.items.now c.loop-item.item-index c.item-item.result c.loop-item.left c.in-Some.less _ _ c.args.room c.loop-item-test.true c.item-item.is c.loop-item.invariant c.in-Some.ensures

pub returns-in-None : goal.returns-in-None
returns-in-None g c =
    place_fails g.T.Field.fits g.T.Field.spells c.args.items.now c.loop-item.item-index c.item-item.result c.loop-item.left _ _ c.args.room c.loop-item-test.true c.item-item.is c.loop-item.invariant c.in-None.ensures

pub returns : goal.returns
returns g c =
    place_end g.T.Field.fits g.T.Field.spells c.args.items.now c.loop-item.item-index c.loop-item.left _ _ c.args.room c.loop-item-test.false c.loop-item.invariant
