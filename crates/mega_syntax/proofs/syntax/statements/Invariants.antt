use Rattle.std.proofs.Common.{length}
use Rattle.mega_syntax.specs.Reading.{placed_step, all_items_at}
use Rattle.mega_syntax.proofs.Loop.{IsWithin}
use Rattle.mega_syntax.proofs.syntax.statements.Given as goal

abbrev pub invariant-statements : goal.invariant-statements
invariant-statements l = IsWithin placed_step l.statements l.parser (all_items_at placed_step l.initial.parser)

abbrev pub decreases-statements : goal.decreases-statements
decreases-statements l = length l.parser
