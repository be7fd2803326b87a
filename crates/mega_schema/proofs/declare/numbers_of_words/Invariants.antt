use Rattle.std.proofs.Common.{◌≡◌, take}
use Rattle.mega_schema.specs.Declare.{numbers_of_words}
use Rattle.mega_schema.proofs.declare.numbers_of_words.Given as goal

abbrev pub invariant-loop-name : goal.invariant-loop-name
invariant-loop-name l = l.numbers ≡ numbers_of_words l.table.properties (take l.name-index l.names)
