use Rattle.std.proofs.Common.{◌≡◌, ◌++◌, map}
use Rattle.std.specs.Vec.Iter.{into_iter_items}
use Rattle.mega_step_parts.specs.Notes.{met_of}
use Rattle.mega_step_parts.proofs.joining.add_valid.Given as goal

abbrev pub invariant-loop-one : goal.invariant-loop-one
invariant-loop-one l = map met_of l.notes ++ into_iter_items l.one-iterator ≡ map met_of l.initial.notes ++ into_iter_items l.initial.one-iterator
