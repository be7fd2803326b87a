-- What a pump does whose read is complete: it is done, or acts again in the same step with the read of another group.
use Rattle.std.specs.Prelude.{Bool, true, false, Option, Some, None}
use Rattle.mega_outcome.specs.declared.request.Request.{Request}
use Rattle.mega_outcome.specs.declared.request.Request.TheVariants.{Txn, Batch, Read, Find, PumpEnter, PumpHandle, Refresh}
use Rattle.mega_rules.specs.Operations.{Now, Operation}
use Rattle.mega_rules.specs.Acting.{ActsAgain, Next, Rests, sends_more}
use Rattle.mega_answers.specs.declared.pumping.Pumped.{Pumped}
use Rattle.mega_answers.specs.declared.pumping.Pumped.TheVariants.{Again, Done}
use Rattle.mega_step_work.specs.Actions.{does}

-- whether it enters messages
abbrev pub is_entering : Request → Bool
is_entering (Txn transaction) = false
is_entering (Batch group transactions) = false
is_entering (Read request) = false
is_entering (Find request) = false
is_entering PumpEnter = true
is_entering PumpHandle = false
is_entering Refresh = false

abbrev pub pumped_by : Now → Pumped → Next
pumped_by now (Done action) = Rests (does now action)
pumped_by now (Again heard) = ActsAgain (sends_more now heard.sends) heard.operation

-- the moment after it, and the operation that acts again there
abbrev pub pumped_after : Now → Pumped → Now
pumped_after now (Done action) = does now action
pumped_after now (Again heard) = sends_more now heard.sends

abbrev pub next_of : Pumped → Option Operation
next_of (Done action) = None
next_of (Again heard) = Some heard.operation

-- what an operation came to that led to a moment, by the operation that acts again there, if one does
abbrev pub led_to : Now → Option Operation → Next
led_to now None = Rests now
led_to now (Some o) = ActsAgain now o
