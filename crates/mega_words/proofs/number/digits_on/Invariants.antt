use Rattle.std.proofs.Common.{◌≡◌, ◌≤◌, drop}
use Rattle.mega_words.specs.Numbers.{digits_on}
use Rattle.mega_words.proofs.number.digits_on.Given as goal

abbrev pub invariant-loop-digit : goal.invariant-loop-digit
invariant-loop-digit l = (digits_on l.most l.number (drop l.digit-index l.digits) ≡ digits_on l.most 0 l.digits) × (l.number ≤ l.most)
