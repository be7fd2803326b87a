use Rattle.std.proofs.Common.{◌≡◌, drop}
use Rattle.mega_index.specs.Fits.{cells_fit}
use Rattle.mega_index.proofs.fits.cells_fit.Given as goal

abbrev pub invariant-loop-cell : goal.invariant-loop-cell
invariant-loop-cell l = cells_fit l.properties 0 l.cells ≡ cells_fit l.properties l.low (drop l.cell-index l.cells)
