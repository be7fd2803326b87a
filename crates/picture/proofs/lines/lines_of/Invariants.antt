use Rattle.std.proofs.Common.{◌≡◌, ◌++◌, drop}
use Rattle.mega_io.specs.TextLines.{lines_after, lines_of}
use Rattle.picture.proofs.lines.lines_of.Given as goal

abbrev pub invariant-loop-byte : goal.invariant-loop-byte
invariant-loop-byte l = l.lines ++ lines_after l.line (drop l.byte-index l.text) ≡ lines_of l.text
