use Rattle.std.proofs.Common.{◌≡◌, ◌++◌, drop}
use Rattle.mega_picture.specs.Bands.{bands_from, band_texts}
use Rattle.mega_picture.proofs.bands.put_bands.Given as goal

abbrev pub invariant-loop-index : goal.invariant-loop-index
invariant-loop-index l = l.out ++ bands_from l.sheet l.band l.node l.since l.index (drop l.index l.told) ≡ l.initial.out ++ band_texts l.sheet l.band l.node l.told
