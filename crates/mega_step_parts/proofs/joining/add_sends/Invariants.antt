use Rattle.std.proofs.Common.{◌≡◌, ◌++◌}
use Rattle.std.specs.Vec.Iter.{into_iter_items}
use Rattle.mega_step_parts.proofs.joining.add_sends.Given as goal

abbrev pub invariant-loop-message : goal.invariant-loop-message
invariant-loop-message l = l.sends ++ into_iter_items l.message-iterator ≡ l.initial.sends ++ into_iter_items l.initial.message-iterator
