-- The fault of a world where a node of it did not step.
use Rattle.std.specs.Prelude.{Bool, true, false, Option, Some, None}
use Rattle.mega_durable.specs.of_core.of_node_events.declared.fault.StepFault.{StepFault}
use Rattle.mega_durable.specs.of_core.of_node_events.declared.fault.StepFault.TheVariants as step
use Rattle.mega_wal.specs.declared.answers.LogFault.{LogFault}
use Rattle.mega_wal.specs.declared.answers.LogFault.TheVariants as log
use Rattle.mega_places.specs.declared.fault.WorldFault.{WorldFault}
use Rattle.mega_places.specs.declared.fault.WorldFault.TheVariants.{NoMemory}

-- a fault that only what comes from outside the cluster brings, and none where all requests are served
abbrev pub is_strange : StepFault → Bool
is_strange step.Unserved = true
is_strange step.Stranger = true
is_strange step.Late = true
is_strange _ = false

-- none stands for those, and for what only a device of rows does, since a world keeps its rows in memory
abbrev pub fault_of : StepFault → Option WorldFault
fault_of step.DiskFault = None
fault_of (step.Full n) = None
fault_of (step.BadRecord n) = None
fault_of step.Unserved = None
fault_of step.Stranger = None
fault_of step.Late = None
fault_of step.NoMemory = Some NoMemory

-- none stands for what records in memory that are open never do
abbrev pub log_fault_of : LogFault → Option WorldFault
log_fault_of log.DiskFault = None
log_fault_of (log.Full n) = None
log_fault_of log.Spent = None
log_fault_of (log.BadRecord n) = None
log_fault_of log.NoMemory = Some NoMemory
