use Rattle.std.proofs.Common.{◌≡◌, ◌+◌, drop}
use Rattle.mega_picture.specs.Escape.{fitting}
use Rattle.mega_picture.proofs.escape.fitting.Given as goal

abbrev pub invariant-loop-index : goal.invariant-loop-index
invariant-loop-index l = l.index + fitting l.left (drop l.index l.text) ≡ fitting l.room l.text
