use Rattle.std.proofs.Common.{◌≡◌, ◌+◌, drop}
use Rattle.mega_index.specs.Fits.{has_required}
use Rattle.mega_index.proofs.fits.has_required.Given as goal

abbrev pub invariant-loop-place : goal.invariant-loop-place
invariant-loop-place l = has_required 1 l.properties l.row ≡ has_required (l.place + 1) (drop l.place l.properties) l.row
