use Rattle.std.proofs.Common.{◌≡◌, ◌++◌, drop}
use Rattle.mega_picture.specs.ArrowNames.{arrow_names, arrow_names_from}
use Rattle.mega_picture.proofs.arrow_names.put_arrow_names.Given as goal

abbrev pub invariant-loop-index : goal.invariant-loop-index
invariant-loop-index l = l.out ++ arrow_names_from l.sheet l.index (drop l.index l.told) ≡ l.initial.out ++ arrow_names l.sheet l.told
