use Rattle.std.proofs.Common.{◌≡◌, ◌++◌, take}
use Rattle.std.specs.Prelude.{map}
use Rattle.mega_schema.specs.Declare.{property_of}
use Rattle.mega_schema.proofs.growth.add_properties.Given as goal

abbrev pub invariant-loop-property : goal.invariant-loop-property
invariant-loop-property l = l.properties ≡ l.initial.properties ++ map property_of (take l.property-index l.words)
