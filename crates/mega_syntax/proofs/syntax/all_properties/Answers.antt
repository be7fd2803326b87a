use Rattle.std.proofs.Common.{[], ◌∷◌}
use Rattle.std.specs.Prelude.{codes}
use Rattle.mega_syntax.specs.Reading.{property_step, all_items_at}
use Rattle.mega_syntax.specs.Grammar.{FitsProperty, spell_property}
use Rattle.mega_syntax.proofs.Loop.{loop_ends, loop_fails, loop_less, loop_more}
use Rattle.mega_syntax.proofs.Takes.{property_step_takes}
use Rattle.mega_syntax.proofs.syntax.all_properties.Goals as goal

pub returns-in-Err : goal.returns-in-Err
returns-in-Err c = loop_fails property_step c.properties.properties c.properties.parser (all_items_at property_step c.args.parser.now) c.in-Err.stop c.properties.invariant c.in-Err.ensures

pub returns-in-Ok-None : goal.returns-in-Ok-None
returns-in-Ok-None c = loop_ends property_step c.properties.properties c.properties.parser c.next_property.new.parser (all_items_at property_step c.args.parser.now) c.properties.invariant (rw c.in-Ok-None.field-0-is at c.in-Ok-None.ensures)

pub properties-smaller : goal.properties-smaller
properties-smaller c = loop_less property_step FitsProperty spell_property (codes "}" ∷ []) property_step_takes c.properties.properties c.properties.parser c.next_property.new.parser c.in-Ok-Some.property (rw c.in-Ok-Some.field-0-is at c.in-Ok-Some.ensures)

pub properties-preserved : goal.properties-preserved
properties-preserved c =
    rw c.in_ok-push-in-Ok-Some.ensures.ok (loop_more property_step FitsProperty spell_property (codes "}" ∷ []) property_step_takes c.properties.properties c.properties.parser c.next_property.new.parser c.in-Ok-Some.property (all_items_at property_step c.args.parser.now) c.properties.invariant (rw c.in-Ok-Some.field-0-is at c.in-Ok-Some.ensures))
