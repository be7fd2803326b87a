use Rattle.std.proofs.Common.{take}
use Rattle.mega_index.specs.Wanted.{KeepsWanted, PlacesWanted}
use Rattle.mega_index.proofs.wanted.want_all.Given as goal

abbrev pub invariant-loop-place : goal.invariant-loop-place
invariant-loop-place l = record {
  kept : KeepsWanted l.initial.wanted l.wanted;
  there : PlacesWanted (take l.place-index l.places) l.wanted;
}
