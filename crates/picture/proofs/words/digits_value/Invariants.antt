use Rattle.std.proofs.Common.{◌≡◌, ◌≤◌, drop}
use Rattle.picture.specs.Windows.{digits_on}
use Rattle.picture.proofs.words.digits_value.Given as goal

abbrev pub invariant-loop-digit : goal.invariant-loop-digit
invariant-loop-digit l = (digits_on l.number (drop l.digit-index l.digits) ≡ digits_on 0 l.digits) × (l.number ≤ 1000000000000)
