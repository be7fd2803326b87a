-- The logs of a node as far as they are applied.
use Rattle.mega_replica.specs.Applying.{applied_log}
use Rattle.mega_rules.specs.Logs.{log_of}
use Rattle.mega_rules.specs.Operations.{Now}
use Rattle.mega_queues.specs.Boxes.{Logs}

abbrev pub applied_of : Now → Logs
applied_of now group = applied_log (log_of now.met group) (now.stored group)
