use Rattle.std.proofs.Common.{◌≡◌, take}
use Rattle.mega_schema.specs.Shaping.{kinds_of}
use Rattle.mega_schema.proofs.shaping.kinds_of.Given as goal

abbrev pub invariant-loop-number : goal.invariant-loop-number
invariant-loop-number l = l.kinds ≡ kinds_of l.properties (take l.number-index l.numbers)
