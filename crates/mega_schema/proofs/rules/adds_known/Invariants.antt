use Rattle.std.proofs.Common.{◌≡◌, drop}
use Rattle.mega_schema.specs.Rules.{adds_known, properties_of}
use Rattle.mega_schema.proofs.rules.adds_known.Given as goal

abbrev pub invariant-loop-property : goal.invariant-loop-property
invariant-loop-property l = adds_known (properties_of l.schema l.table) (drop l.property-index l.added) ≡ adds_known (properties_of l.schema l.table) l.added
