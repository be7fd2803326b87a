use Rattle.std.proofs.Common.{drop}
use Rattle.std.specs.List.{All}
use Rattle.mega_wal.specs.Items.{IsItem}
use Rattle.mega_well_formed.proofs.Deciding.{Decides}
use Rattle.mega_well_formed.proofs.item.are_items.Given as goal

abbrev pub invariant-loop-item : goal.invariant-loop-item
invariant-loop-item l = Decides (All IsItem (drop l.item-index l.items)) (All IsItem l.items)
