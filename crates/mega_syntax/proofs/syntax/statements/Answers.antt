use Rattle.std.proofs.Common.{[]}
use Rattle.mega_syntax.specs.Reading.{placed_step, all_items_at}
use Rattle.mega_syntax.specs.Grammar.{FitsPlaced, spell_placed}
use Rattle.mega_syntax.proofs.Loop.{loop_ends, loop_fails, loop_less, loop_more}
use Rattle.mega_syntax.proofs.Takes.{placed_step_takes}
use Rattle.mega_syntax.proofs.syntax.statements.Goals as goal

pub returns-in-Err : goal.returns-in-Err
returns-in-Err c = loop_fails placed_step c.statements.statements c.statements.parser (all_items_at placed_step c.args.parser.now) c.in-Err.stop c.statements.invariant c.in-Err.ensures

pub returns-in-Ok-None : goal.returns-in-Ok-None
returns-in-Ok-None c = loop_ends placed_step c.statements.statements c.statements.parser c.next_statement.new.parser (all_items_at placed_step c.args.parser.now) c.statements.invariant (rw c.in-Ok-None.field-0-is at c.in-Ok-None.ensures)

pub statements-smaller : goal.statements-smaller
statements-smaller c = loop_less placed_step FitsPlaced spell_placed [] placed_step_takes c.statements.statements c.statements.parser c.next_statement.new.parser c.in-Ok-Some.statement (rw c.in-Ok-Some.field-0-is at c.in-Ok-Some.ensures)

pub statements-preserved : goal.statements-preserved
statements-preserved c =
    rw c.in_ok-push-in-Ok-Some.ensures.ok (loop_more placed_step FitsPlaced spell_placed [] placed_step_takes c.statements.statements c.statements.parser c.next_statement.new.parser c.in-Ok-Some.statement (all_items_at placed_step c.args.parser.now) c.statements.invariant (rw c.in-Ok-Some.field-0-is at c.in-Ok-Some.ensures))
