-- The phase of an operation as the rules see it.
use Rattle.mega_operations.specs.declared.phase.Phase.{Phase}
use Rattle.mega_operations.specs.declared.phase.Phase.TheVariants as phase
use Rattle.mega_operations.specs.declared.phase.Promised.{Promised}
use Rattle.mega_operations.specs.declared.phase.Promised.TheVariants as promised
use Rattle.mega_rules.specs.Operations as rules

abbrev pub promised_of : Promised → rules.Promised
promised_of (promised.Replies replies) = rules.Replies replies
promised_of (promised.Results results) = rules.Results results

abbrev pub phase_of : Phase → rules.Phase
phase_of (phase.Reads group reading) = rules.Reads group reading
phase_of (phase.Proposes group position asked proposal answer) = rules.Proposes group position asked proposal (promised_of answer)
