use Rattle.std.proofs.Common.{◌≡◌, ◌++◌, drop}
use Rattle.picture.specs.Inputs.{text_of}
use Rattle.picture.proofs.header.text_of.Given as goal

abbrev pub invariant-loop-line : goal.invariant-loop-line
invariant-loop-line l = l.text ++ text_of (drop l.line-index l.lines) ≡ text_of l.lines
