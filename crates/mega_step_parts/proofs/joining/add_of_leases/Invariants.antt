use Rattle.std.proofs.Common.{◌≡◌, ◌++◌, map}
use Rattle.std.specs.Vec.Iter.{into_iter_items}
use Rattle.mega_step_work.specs.of_leases.Notes.{met_of as leases_met}
use Rattle.mega_step_parts.specs.Notes.{met_of}
use Rattle.mega_step_parts.proofs.joining.add_of_leases.Given as goal

abbrev pub invariant-loop-note : goal.invariant-loop-note
invariant-loop-note l = map met_of l.notes ++ map leases_met (into_iter_items l.note-iterator) ≡ map met_of l.initial.notes ++ map leases_met (into_iter_items l.initial.note-iterator)
