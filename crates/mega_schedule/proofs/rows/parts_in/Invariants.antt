use Rattle.std.proofs.Common.{◌≡◌, ◌++◌, drop}
use Rattle.serde_json.specs.View.{items_view}
use Rattle.mega_schedule.specs.Rows.{each_in}
use Rattle.mega_schedule.proofs.rows.parts_in.Given as goal

abbrev pub invariant-loop-item : goal.invariant-loop-item
invariant-loop-item g l =
    l.made ++ each_in (g.P.Part.part_of l.schema) (items_view (drop l.item-index l.item-items)) ≡ each_in (g.P.Part.part_of l.schema) (items_view l.item-items)
