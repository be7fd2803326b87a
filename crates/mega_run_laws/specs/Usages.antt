-- What the users of a store bring fits the events of a run: the text with which an operation begins means its request, and the handlers of
-- each event are those of some moment.
use Rattle.std.specs.Prelude.{◌≡◌, ℕ, List, Option, Some}
use Rattle.mega_handler.specs.Named.{Meanings}
use Rattle.mega_tape_laws.specs.of_schedule.declared.world_event.WorldEvent.{WorldEvent}
use Rattle.mega_tape_laws.specs.of_schedule.declared.world_event.WorldEvent.TheVariants.{Begin}
use Rattle.mega_tape_laws.specs.of_transcript.declared.item.Item.{Item}
use Rattle.mega_tape_laws.specs.of_promises.Runs.{Happening}
use Rattle.mega_outcome.specs.declared.request.Request.{Request}
use Rattle.mega_tape_laws.specs.Indexed.{AsksValues}
use Rattle.mega_tape_laws.specs.Writes.{Usage}
use Rattle.mega_run_laws.specs.Justified.{Each}

pub record Brought (usage : Usage) (handlers : Meanings) : Type 0 where
  pub moment : List Item
  pub is : usage.handlers moment ≡ handlers

abbrev pub IsMeant : Usage → WorldEvent → Type 0
IsMeant usage (Begin node request text) = usage.meaning text ≡ Some request
IsMeant usage _ = Unit {0}

pub record FitsOne (usage : Usage) (one : Happening) : Type 0 where
  pub brought : Brought usage one.handlers
  pub meant : IsMeant usage one.event

abbrev pub Fits : Usage → List Happening → Type 0
Fits usage events = Each (FitsOne usage) events

-- the requests that texts mean put rows with values that the program can hold
abbrev pub MeansValues : (List ℕ → Option Request) → Type 0
MeansValues meaning = (text : List ℕ) (request : Request) → meaning text ≡ Some request → AsksValues request
