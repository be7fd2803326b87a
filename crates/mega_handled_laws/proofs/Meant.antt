-- The handlers of a run's events are those that are there at moments, each event at one of its own.
use Rattle.std.proofs.Common.{◌≡◌, ℕ, List, [], ◌∷◌, Option, refl}
use Rattle.mega_handler.specs.Named.{Meanings}
use Rattle.mega_outcome.specs.declared.request.Request.{Request}
use Rattle.mega_run_laws.specs.of_tape_laws.of_schedule.declared.world_event.WorldEvent.{WorldEvent}
use Rattle.mega_run_laws.specs.of_tape_laws.of_schedule.declared.world_event.WorldEvent.TheVariants.{Begin}
use Rattle.mega_run_laws.specs.of_transcript.declared.item.Item.{Item}
use Rattle.mega_run_laws.specs.of_transcript.declared.item.Item.TheVariants.{Cut}
use Rattle.mega_run_laws.specs.of_promises.Runs.{Happening}
use Rattle.mega_run_laws.specs.of_tape_laws.Writes.{Usage}
use Rattle.mega_run_laws.specs.Justified.{Each}
use Rattle.mega_run_laws.specs.Usages.{Fits, FitsOne, IsMeant}
use Rattle.mega_run_laws.proofs.Turns.{each_on, each_zip}
use Rattle.mega_handled_laws.specs.Meant.{AreMeant}

-- as many items as events before it
abbrev pub handlers_at : List Happening → List Item → Meanings
handlers_at [] moment = []
handlers_at (one ∷ later) [] = one.handlers
handlers_at (one ∷ later) (item ∷ moment) = handlers_at later moment

abbrev pub usage_of : (List ℕ → Option Request) → List Happening → Usage
usage_of meaning events = record { meaning = meaning; handlers = handlers_at events }

record AreThere (events : List Happening) (one : Happening) : Type 0 where
  moment : List Item
  is : handlers_at events moment ≡ one.handlers

all_there : (events : List Happening) → Each (AreThere events) events
all_there [] = tt
all_there (one ∷ later) = (
  record { moment = []; is = refl },
  each_on (AreThere later) (AreThere (one ∷ later)) (λ other there. record { moment = Cut ∷ there.moment; is = there.is }) later (all_there later),
)

meant_by : (meaning : List ℕ → Option Request) (some other : List Item → Meanings) (event : WorldEvent) → IsMeant (record { meaning = meaning; handlers = some }) event → IsMeant (record { meaning = meaning; handlers = other }) event
meant_by meaning some other (Begin node request text) h = h
meant_by meaning some other _ h = tt

pub meant_fits : (meaning : List ℕ → Option Request) (events : List Happening) → AreMeant meaning events → Fits (usage_of meaning events) events
meant_fits meaning events meant = each_zip (AreThere events) (λ (one : Happening). IsMeant (record { meaning = meaning; handlers = λ moment. [] }) one.event) (FitsOne (usage_of meaning events))
    (λ one there means. record { brought = record { moment = there.moment; is = there.is }; meant = meant_by meaning (λ moment. []) (handlers_at events) one.event means })
    events (all_there events) meant
