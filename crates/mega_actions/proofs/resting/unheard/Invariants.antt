use Rattle.std.proofs.Common.{◌≡◌, ◌++◌, map}
use Rattle.std.specs.Vec.Iter.{into_iter_items}
use Rattle.mega_actions.specs.Turns.{unheard}
use Rattle.mega_actions.proofs.resting.unheard.Given as goal

abbrev pub invariant-loop-operation : goal.invariant-loop-operation
invariant-loop-operation l = l.heard ++ map unheard (into_iter_items l.operation-iterator) ≡ map unheard (into_iter_items l.initial.operation-iterator)
