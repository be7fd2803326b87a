use Rattle.std.proofs.Common.{◌≡◌, ◌++◌, map}
use Rattle.std.specs.Vec.Iter.{into_iter_items}
use Rattle.mega_rules.specs.Operations.{Setting}
use Rattle.mega_rules.specs.Steps.{hears_message}
use Rattle.mega_step_parts.proofs.hearing.these_hear.Given as goal

abbrev pub invariant-loop-operation : goal.invariant-loop-operation
invariant-loop-operation l = (s : Setting) → s.cluster ≡ l.members
    → l.heard ++ map (hears_message s l.clock l.message) (into_iter_items l.operation-iterator) ≡ map (hears_message s l.clock l.message) (into_iter_items l.initial.operation-iterator)
