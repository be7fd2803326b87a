use Rattle.std.proofs.Common.{◌≡◌, drop}
use Rattle.mega_picture.specs.Flaws.{flaw_of, flaw_from}
use Rattle.mega_picture.proofs.drawable.flaw_of.Given as goal

abbrev pub invariant-loop-index : goal.invariant-loop-index
invariant-loop-index l = flaw_from l.told l.nodes l.index (drop l.index l.told) ≡ flaw_of l.nodes l.told
