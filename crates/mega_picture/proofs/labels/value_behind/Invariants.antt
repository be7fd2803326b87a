use Rattle.std.proofs.Common.{◌≡◌, drop}
use Rattle.mega_picture.specs.Labels.{value_behind}
use Rattle.mega_picture.proofs.labels.value_behind.Given as goal

abbrev pub invariant-loop-index : goal.invariant-loop-index
invariant-loop-index l = value_behind l.mark l.text ≡ value_behind l.mark (drop l.index l.text)
