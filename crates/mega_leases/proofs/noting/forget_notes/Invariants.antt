use Rattle.std.proofs.Common.{◌≡◌, map, take}
use Rattle.mega_leases.specs.Notes.{forgotten_note}
use Rattle.mega_leases.proofs.noting.forget_notes.Given as goal

abbrev pub invariant-loop-cell : goal.invariant-loop-cell
invariant-loop-cell l = l.notes ≡ map (forgotten_note l.epoch) (take l.cell-index l.cells)
