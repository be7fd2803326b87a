use Rattle.std.proofs.Common.{length}
use Rattle.mega_syntax.specs.Reading.{clause_step, all_items_at}
use Rattle.mega_syntax.proofs.Loop.{IsWithin}
use Rattle.mega_syntax.proofs.syntax.clauses.Given as goal

abbrev pub invariant-clauses : goal.invariant-clauses
invariant-clauses l = IsWithin clause_step l.clauses l.parser (all_items_at clause_step l.initial.parser)

abbrev pub decreases-clauses : goal.decreases-clauses
decreases-clauses l = length l.parser
