use Rattle.std.proofs.Common.{[], ◌∷◌}
use Rattle.std.specs.Prelude.{codes}
use Rattle.mega_syntax.specs.Reading.{name_step, all_items_at}
use Rattle.mega_syntax.specs.Grammar.{FitsName, spell_name}
use Rattle.mega_syntax.proofs.Loop.{loop_ends, loop_fails, loop_less, loop_more}
use Rattle.mega_syntax.proofs.Takes.{name_step_takes}
use Rattle.mega_syntax.proofs.syntax.all_names.Goals as goal

pub returns-in-Err : goal.returns-in-Err
returns-in-Err c = loop_fails name_step c.names.names c.names.parser (all_items_at name_step c.args.parser.now) c.in-Err.stop c.names.invariant c.in-Err.ensures

pub returns-in-Ok-None : goal.returns-in-Ok-None
returns-in-Ok-None c = loop_ends name_step c.names.names c.names.parser c.next_name.new.parser (all_items_at name_step c.args.parser.now) c.names.invariant (rw c.in-Ok-None.field-0-is at c.in-Ok-None.ensures)

pub names-smaller : goal.names-smaller
names-smaller c = loop_less name_step FitsName spell_name (codes ")" ∷ []) name_step_takes c.names.names c.names.parser c.next_name.new.parser c.in-Ok-Some.name (rw c.in-Ok-Some.field-0-is at c.in-Ok-Some.ensures)

pub names-preserved : goal.names-preserved
names-preserved c =
    rw c.in_ok-push-in-Ok-Some.ensures.ok (loop_more name_step FitsName spell_name (codes ")" ∷ []) name_step_takes c.names.names c.names.parser c.next_name.new.parser c.in-Ok-Some.name (all_items_at name_step c.args.parser.now) c.names.invariant (rw c.in-Ok-Some.field-0-is at c.in-Ok-Some.ensures))
