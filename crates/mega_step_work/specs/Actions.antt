-- What an operation that acts adds to its step.
use Rattle.std.specs.Prelude.{List, Option, Some, None}
use Rattle.mega_wire.specs.declared.message.Message.{Message}
use Rattle.mega_rules.specs.Operations.{Now}
use Rattle.mega_rules.specs.Acting.{ends, keeps, sends_more}
use Rattle.mega_step_work.specs.declared.action.Action.{Action}
use Rattle.mega_step_work.specs.declared.action.End.{End}
use Rattle.mega_step_work.specs.declared.action.End.TheVariants.{Ends, Stays}

-- what is sent, where anything is
abbrev pub said : Now → Option (List Message) → Now
said now None = now
said now (Some sends) = sends_more now sends

-- the operation stays open, or ends with an answer
abbrev pub ended_by : Now → End → Now
ended_by now (Stays o) = keeps now o
ended_by now (Ends op answer) = ends now op answer

abbrev pub does : Now → Action → Now
does now action = ended_by (said now action.sends) action.end
