-- The event of the rules that an event at a node is.
use Rattle.mega_rules.specs.Steps.{Begin, Event, Take, Tick}
use Rattle.mega_step_parts.specs.declared.event.Event.{Event as Given}
use Rattle.mega_step_parts.specs.declared.event.Event.TheVariants as given

abbrev pub event_of : Given → Event
event_of (given.Take message) = Take message.now
event_of (given.Begin request text) = Begin request text.now
event_of (given.Tick now) = Tick now
