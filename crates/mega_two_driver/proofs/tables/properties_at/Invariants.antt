use Rattle.std.proofs.Common.{◌≡◌, ◌++◌, drop}
use Rattle.mega_two_driver.specs.Tables.{properties_at}
use Rattle.mega_two_driver.proofs.tables.properties_at.Given as goal

abbrev pub invariant-loop-number : goal.invariant-loop-number
invariant-loop-number l = l.made ++ properties_at l.properties (drop l.number-index l.numbers) ≡ properties_at l.properties l.numbers
