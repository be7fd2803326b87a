use Rattle.std.proofs.Common.{◌≡◌, ◌++◌}
use Rattle.serde_json.specs.View.{members_view}
use Rattle.mega_schedule.specs.Rows.{unknown_cells}
use Rattle.mega_schedule.proofs.rows.put_unknowns.Given as goal

abbrev pub invariant-loop-name : goal.invariant-loop-name
invariant-loop-name l =
    l.cells ++ unknown_cells l.properties (members_view l.name-iterator) ≡ l.initial.cells ++ unknown_cells l.properties (members_view l.members.entries)
