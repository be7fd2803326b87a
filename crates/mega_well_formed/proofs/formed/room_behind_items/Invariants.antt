use Rattle.std.proofs.Common.{drop}
use Rattle.std.specs.List.{All, flat_map}
use Rattle.mega_well_formed.proofs.Room.{Leads}
use Rattle.mega_well_formed.proofs.formed.room_behind_items.Given as goal

abbrev pub invariant-loop-item : goal.invariant-loop-item
invariant-loop-item g l =
    Leads (All g.T.Field.fits (drop l.item-index l.items)) (flat_map g.T.Field.spells (drop l.item-index l.items)) l.left
    (All g.T.Field.fits l.items) (flat_map g.T.Field.spells l.items) l.room
