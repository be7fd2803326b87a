use Rattle.std.proofs.Common.{◌≡◌, length}
use Rattle.mega_keys.specs.Reading.{with_front, unescaped}
use Rattle.mega_keys.proofs.read.unescape.Given as goal

abbrev pub invariant-units : goal.invariant-units
invariant-units l = with_front l.found (unescaped l.left) ≡ unescaped l.bytes

abbrev pub decreases-units : goal.decreases-units
decreases-units l = length l.left
