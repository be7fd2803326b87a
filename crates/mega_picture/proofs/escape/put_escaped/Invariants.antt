use Rattle.std.proofs.Common.{◌≡◌, ◌++◌, drop}
use Rattle.mega_picture.specs.Escape.{escape, escape_behind}
use Rattle.mega_picture.proofs.escape.put_escaped.Given as goal

abbrev pub invariant-loop-byte : goal.invariant-loop-byte
invariant-loop-byte l = l.out ++ escape_behind l.before l.last (drop l.byte-index l.text) ≡ l.initial.out ++ escape l.text
