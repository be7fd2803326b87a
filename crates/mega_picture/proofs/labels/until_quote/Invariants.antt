use Rattle.std.proofs.Common.{◌≡◌, ◌++◌, take, drop}
use Rattle.mega_picture.specs.Labels.{until_quote}
use Rattle.mega_picture.proofs.labels.until_quote.Given as goal

abbrev pub invariant-loop-index : goal.invariant-loop-index
invariant-loop-index l = until_quote l.text ≡ take l.index l.text ++ until_quote (drop l.index l.text)
