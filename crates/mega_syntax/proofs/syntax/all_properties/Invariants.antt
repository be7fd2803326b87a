use Rattle.std.proofs.Common.{length}
use Rattle.mega_syntax.specs.Reading.{property_step, all_items_at}
use Rattle.mega_syntax.proofs.Loop.{IsWithin}
use Rattle.mega_syntax.proofs.syntax.all_properties.Given as goal

abbrev pub invariant-properties : goal.invariant-properties
invariant-properties l = IsWithin property_step l.properties l.parser (all_items_at property_step l.initial.parser)

abbrev pub decreases-properties : goal.decreases-properties
decreases-properties l = length l.parser
