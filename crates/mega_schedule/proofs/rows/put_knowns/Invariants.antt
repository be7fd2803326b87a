use Rattle.std.proofs.Common.{◌≡◌, ◌++◌, drop}
use Rattle.serde_json.specs.View.{view}
use Rattle.mega_schedule.specs.Rows.{known_cells}
use Rattle.mega_schedule.proofs.rows.put_knowns.Given as goal

abbrev pub invariant-loop-property : goal.invariant-loop-property
invariant-loop-property l =
    l.cells ++ known_cells l.number (drop l.property-index l.properties) (view l.object) ≡ l.initial.cells ++ known_cells 1 l.properties (view l.object)
