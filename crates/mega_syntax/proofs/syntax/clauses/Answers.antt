use Rattle.std.proofs.Common.{[], ◌∷◌}
use Rattle.std.specs.Prelude.{codes}
use Rattle.mega_syntax.specs.Reading.{clause_step, all_items_at}
use Rattle.mega_syntax.specs.Grammar.{FitsClause, spell_clause_item}
use Rattle.mega_syntax.proofs.Loop.{loop_ends, loop_fails, loop_less, loop_more}
use Rattle.mega_syntax.proofs.Takes.{clause_step_takes}
use Rattle.mega_syntax.proofs.syntax.clauses.Goals as goal

pub returns-in-Err : goal.returns-in-Err
returns-in-Err c = loop_fails clause_step c.clauses.clauses c.clauses.parser (all_items_at clause_step c.args.parser.now) c.in-Err.stop c.clauses.invariant c.in-Err.ensures

pub returns-in-Ok-None : goal.returns-in-Ok-None
returns-in-Ok-None c = loop_ends clause_step c.clauses.clauses c.clauses.parser c.next_clause.new.parser (all_items_at clause_step c.args.parser.now) c.clauses.invariant (rw c.in-Ok-None.field-0-is at c.in-Ok-None.ensures)

pub clauses-smaller : goal.clauses-smaller
clauses-smaller c = loop_less clause_step FitsClause spell_clause_item (codes ";" ∷ []) clause_step_takes c.clauses.clauses c.clauses.parser c.next_clause.new.parser c.in-Ok-Some.clause (rw c.in-Ok-Some.field-0-is at c.in-Ok-Some.ensures)

pub clauses-preserved : goal.clauses-preserved
clauses-preserved c =
    rw c.in_ok-push-in-Ok-Some.ensures.ok (loop_more clause_step FitsClause spell_clause_item (codes ";" ∷ []) clause_step_takes c.clauses.clauses c.clauses.parser c.next_clause.new.parser c.in-Ok-Some.clause (all_items_at clause_step c.args.parser.now) c.clauses.invariant (rw c.in-Ok-Some.field-0-is at c.in-Ok-Some.ensures))
