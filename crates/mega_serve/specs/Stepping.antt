-- What a node that is served is: whatever it is given, its steps are those of the rules, where what it is given may happen there.
use Rattle.std.specs.Prelude.{◌≡◌, ℕ, List, map}
use Rattle.std.specs.List.{flat_map}
use Rattle.mega_wire.specs.declared.message.Message.{Message}
use Rattle.mega_transcript.specs.declared.item.Item.{Item}
use Rattle.mega_rules.specs.Steps.{Begin, Event, Step, Take, Tick}
use Rattle.mega_promises.specs.Items.{shown}
use Rattle.mega_serve.specs.declared.steps.Event.{Event as Given}
use Rattle.mega_serve.specs.declared.steps.Event.TheVariants as given
use Rattle.mega_serve.specs.declared.steps.Made.{Made}

-- what a node is given, as an event of the rules
abbrev pub event_of : Given → Event
event_of (given.Tick now) = Tick now
event_of (given.Take message) = Take message
event_of (given.Begin request text) = Begin request text

-- what a step made is shown and sent as the rules have it
pub record IsMade (me : ℕ) (step : Step) (made : Made) : Type 0 where
  pub items : made.items ≡ flat_map (shown me) step.notes
  pub sends : made.sends ≡ step.sends
