-- What the text means with which an operation begins: what is asked for where the text is read again as a line.
use Rattle.std.specs.Prelude.{ℕ, List, Option, Some, None, Result, Ok, Err}
use Rattle.mega_outcome.specs.declared.request.Request.{Request}
use Rattle.mega_schema.specs.declared.schema.Schema.{Schema}
use Rattle.mega_schedule.specs.declared.world_event.WorldEvent.{WorldEvent}
use Rattle.mega_schedule.specs.declared.world_event.WorldEvent.TheVariants.{Begin}
use Rattle.mega_schedule.specs.Events.{object_of, of_object}

abbrev pub asked_by : WorldEvent → Option Request
asked_by (Begin node request text) = Some request
asked_by _ = None

abbrev pub asked_in : Result WorldEvent ℕ → Option Request
asked_in (Ok event) = asked_by event
asked_in (Err reason) = None

abbrev pub meaning_in : Schema → List ℕ → Option Request
meaning_in schema text = asked_in (of_object schema (object_of text))
