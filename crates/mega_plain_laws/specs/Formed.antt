-- What the format can hold, of the events of a run and of what its tape shows.
use Rattle.std.specs.Prelude.{Bool, false, List}
use Rattle.mega_entry.specs.Entries.{IsEntry}
use Rattle.mega_wire.specs.Messages.{IsMessage}
use Rattle.mega_schedule.specs.declared.world_event.WorldEvent.{WorldEvent}
use Rattle.mega_schedule.specs.declared.world_event.WorldEvent.TheVariants as events
use Rattle.mega_transcript.specs.declared.item.Item.{Item}
use Rattle.mega_transcript.specs.declared.item.Item.TheVariants.{Answer, Begin, Decide, Sent, Unsent}
use Rattle.mega_transcript.specs.Requests.{IsRequest as IsText}
use Rattle.mega_format_laws.specs.Histories.{IsClock}
use Rattle.mega_format_laws.specs.Requests.{AreHandlers, IsRequest}
use Rattle.mega_format_laws.specs.Rounds.{Each}
use Rattle.mega_promises.specs.Runs.{Happening}
use Rattle.mega_schema.specs.declared.schema.Schema.{Schema}
use Rattle.mega_plain_laws.specs.Answers.{IsFit, shows_rows}

-- a clock is in its range; a request is of the format, and its text is the compact text of an object
abbrev pub IsAsked : WorldEvent → Type 0
IsAsked (events.Tick node clock) = IsClock clock
IsAsked (events.Begin node request text) = IsRequest request × IsText text
IsAsked _ = Unit {0}

-- so is what happens, and what its handlers make
pub record IsFormed (one : Happening) : Type 0 where
  pub handlers : AreHandlers one.handlers
  pub asked : IsAsked one.event

abbrev pub AreFormed : List Happening → Type 0
AreFormed events = Each IsFormed events

-- the message, the entry and the answer that an item shows are of the format, and so is the text with which an operation begins
abbrev pub IsSpelled : Schema → Item → Type 0
IsSpelled schema (Unsent node message) = IsMessage message
IsSpelled schema (Begin op text) = IsText text
IsSpelled schema (Sent number message) = IsMessage message
IsSpelled schema (Decide node group position entry) = IsEntry entry
IsSpelled schema (Answer op answer) = IsFit schema answer
IsSpelled schema _ = Unit {0}

-- an item that shows rows of a read
abbrev pub is_of_rows : Item → Bool
is_of_rows (Answer op answer) = shows_rows answer
is_of_rows _ = false
