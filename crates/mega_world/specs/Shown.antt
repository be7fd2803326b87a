-- What the notes of a step show on a stored tape.
use Rattle.std.specs.Prelude.{ℕ, List, map, flat_map}
use Rattle.mega_places.specs.of_promises.of_transcript.declared.item.Item.{Item}
use Rattle.mega_places.specs.of_promises.Items.{shown}
use Rattle.mega_places.specs.of_durable.of_core.of_step_parts.declared.note.Note.{Note}
use Rattle.mega_places.specs.of_durable.of_core.of_step_parts.Notes.{met_of}

abbrev pub notes_shown : ℕ → List Note → List Item
notes_shown me notes = flat_map (shown me) (map met_of notes)
