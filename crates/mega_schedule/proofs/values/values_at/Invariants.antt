use Rattle.std.proofs.Common.{◌≡◌, ◌++◌, drop}
use Rattle.serde_json.specs.View.{items_view}
use Rattle.mega_schedule.specs.Values.{values_at}
use Rattle.mega_schedule.proofs.values.values_at.Given as goal

abbrev pub invariant-loop-item : goal.invariant-loop-item
invariant-loop-item l =
    l.made ++ values_at l.properties l.left (items_view (drop l.item-index l.items)) ≡ values_at l.properties l.places (items_view l.items)
