use Rattle.std.proofs.Common.{◌≡◌, subst, arith}
use Rattle.std.specs.List.{All, flat_map}
use Rattle.mega_well_formed.specs.Room.{Leaves}
use Rattle.mega_well_formed.proofs.Room.{list_goes, list_none}
use Rattle.mega_well_formed.proofs.formed.room_behind_list.Goals as goal

pub returns-in-Some : goal.returns-in-Some
returns-in-Some g c =
    list_goes g.T.Field.fits g.T.Field.spells c.args.least 4294967295 c.args.room c.in-Some.left c.args.items.now c.room_behind_items.result (omega arith) (omega arith) c.in-Some.ensures
    (subst (λ items. Leaves (All g.T.Field.fits items) (flat_map g.T.Field.spells items) c.in-Some.left c.room_behind_items.result) c.as_slice.ensures c.room_behind_items.ensures)

pub returns-in-None : goal.returns-in-None
returns-in-None g c = list_none g.T.Field.fits g.T.Field.spells c.args.least 4294967295 c.args.room c.args.items.now c.in-None.ensures
