use Rattle.std.proofs.Common.{◌≡◌, ◌++◌, ℕ, List, map, flat_map}
use Rattle.std.specs.Vec.Iter.{into_iter_items}
use Rattle.mega_base.specs.declared.names.GroupId.{GroupId}
use Rattle.mega_rules.specs.Met.{Met}
use Rattle.mega_replica.specs.Following.{progress_at}
use Rattle.mega_step_parts.specs.Notes.{met_of}
use Rattle.mega_step_choices.specs.Behind.{Keeps}
use Rattle.mega_step_parts.specs.Positions.{note_since}
use Rattle.mega_step_parts.proofs.applying.apply_notes.Given as goal

abbrev pub invariant-loop-one : goal.invariant-loop-one
invariant-loop-one g l = (met : List Met) (stored : GroupId → ℕ) → Keeps l.voter.logs.kept (g.V.Versions.version l.rows.rows) (progress_at l.rows.progress) met stored
    → map met_of l.notes ++ flat_map (note_since met stored) (into_iter_items l.one-iterator) ≡ flat_map (note_since met stored) (into_iter_items l.initial.one-iterator)
