-- What the notes of a step show.
use Rattle.std.specs.Prelude.{ℕ, List, map, flat_map}
use Rattle.mega_transcript.specs.declared.item.Item.{Item}
use Rattle.mega_promises.specs.Items.{shown}
use Rattle.mega_durable.specs.of_core.of_step_parts.declared.note.Note.{Note}
use Rattle.mega_durable.specs.of_core.of_step_parts.Notes.{met_of}

abbrev pub notes_shown : ℕ → List Note → List Item
notes_shown me notes = flat_map (shown me) (map met_of notes)
