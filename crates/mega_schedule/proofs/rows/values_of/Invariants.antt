use Rattle.std.proofs.Common.{◌≡◌, ◌++◌, drop}
use Rattle.serde_json.specs.View.{items_view}
use Rattle.mega_schedule.specs.Values.{value_of}
use Rattle.mega_schedule.specs.Rows.{each_in}
use Rattle.mega_schedule.proofs.rows.values_of.Given as goal

abbrev pub invariant-loop-item : goal.invariant-loop-item
invariant-loop-item l = l.made ++ each_in (value_of l.kind) (items_view (drop l.item-index l.items)) ≡ each_in (value_of l.kind) (items_view l.items)
