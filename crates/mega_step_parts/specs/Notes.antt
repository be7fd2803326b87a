-- What a node notes in a step.
use Rattle.mega_rules.specs.Met.{Met, Applies, Decides}
use Rattle.mega_step_work.specs.of_leases.Notes.{met_of as leases_met}
use Rattle.mega_step_parts.specs.declared.note.Note.{Note}
use Rattle.mega_step_parts.specs.declared.note.Note.TheVariants as note

-- a note as an item of what the node met
abbrev pub met_of : Note → Met
met_of (note.OfLeases one) = leases_met one
met_of (note.Decided group position entry) = Decides group position entry
met_of (note.Applied group position) = Applies group position
met_of (note.MadeValid one) = one
met_of (note.Answered one) = one
