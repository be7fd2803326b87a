use Rattle.std.proofs.Common.{◌≡◌, take}
use Rattle.mega_index.specs.Fits.{choices}
use Rattle.mega_index.proofs.choices.choices.Given as goal

abbrev pub invariant-loop-number : goal.invariant-loop-number
invariant-loop-number l = l.chosen.items ≡ choices l.row (take l.number-index l.numbers)
