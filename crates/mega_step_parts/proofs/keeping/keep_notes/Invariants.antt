use Rattle.std.proofs.Common.{◌≡◌, List, drop, map}
use Rattle.mega_step_work.specs.of_leases.Notes.{met_of}
use Rattle.mega_rules.specs.Met.{Met}
use Rattle.mega_rules.specs.Steps.{onto}
use Rattle.mega_step_work.specs.of_voter.Telling.{Tells}
use Rattle.mega_step_choices.specs.Staging.{Stages}
use Rattle.mega_step_parts.proofs.Sent.{KeptSo, StagedSo}
use Rattle.mega_step_parts.proofs.keeping.keep_notes.Given as goal

abbrev pub invariant-loop-note : goal.invariant-loop-note
invariant-loop-note g l =
    ((met : List Met) → Tells l.fn.voter.logs.kept met → KeptSo l.voter.logs.kept (drop l.note-index l.notes) (onto (map met_of l.notes) met))
    × ((before met : List Met) → Stages l.fn.voter.logs.staged.items before met → StagedSo l.voter.logs.staged.items before (drop l.note-index l.notes) (onto (map met_of l.notes) met))
    × (l.voter.logs.records ≡ l.fn.voter.logs.records)
