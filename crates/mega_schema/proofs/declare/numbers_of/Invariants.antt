use Rattle.std.proofs.Common.{◌≡◌, take}
use Rattle.mega_schema.specs.Rules.{properties_of}
use Rattle.mega_schema.specs.Declare.{numbers_of}
use Rattle.mega_schema.proofs.declare.numbers_of.Given as goal

abbrev pub invariant-loop-name : goal.invariant-loop-name
invariant-loop-name l = l.numbers ≡ numbers_of (properties_of l.schema l.table) (take l.name-index l.names)
