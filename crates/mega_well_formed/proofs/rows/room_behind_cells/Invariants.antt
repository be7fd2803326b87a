use Rattle.std.proofs.Common.{drop}
use Rattle.std.specs.List.{flat_map}
use Rattle.mega_base.specs.Values.{Ascends, cell_text}
use Rattle.mega_well_formed.proofs.Room.{Leads}
use Rattle.mega_well_formed.proofs.rows.room_behind_cells.Given as goal

abbrev pub invariant-loop-cell : goal.invariant-loop-cell
invariant-loop-cell l =
    Leads (Ascends l.low (drop l.cell-index l.cells)) (flat_map cell_text (drop l.cell-index l.cells)) l.left (Ascends 0 l.cells) (flat_map cell_text l.cells) l.room
