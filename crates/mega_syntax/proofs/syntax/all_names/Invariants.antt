use Rattle.std.proofs.Common.{length}
use Rattle.mega_syntax.specs.Reading.{name_step, all_items_at}
use Rattle.mega_syntax.proofs.Loop.{IsWithin}
use Rattle.mega_syntax.proofs.syntax.all_names.Given as goal

abbrev pub invariant-names : goal.invariant-names
invariant-names l = IsWithin name_step l.names l.parser (all_items_at name_step l.initial.parser)

abbrev pub decreases-names : goal.decreases-names
decreases-names l = length l.parser
