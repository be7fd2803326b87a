-- Why a node that is served did not step, by why the node over its records did not.
use Rattle.mega_durable.specs.of_core.of_node_events.declared.fault.StepFault.{StepFault}
use Rattle.mega_durable.specs.of_core.of_node_events.declared.fault.StepFault.TheVariants as step
use Rattle.mega_durable.specs.declared.fault.UpFault.{UpFault}
use Rattle.mega_durable.specs.declared.fault.UpFault.TheVariants as up
use Rattle.mega_serve.specs.of_page.declared.fault.NodeFault.{NodeFault}
use Rattle.mega_serve.specs.of_page.declared.fault.NodeFault.TheVariants.{BadRecord, DiskFault, Full, NoMemory, Spent, Unformed}
use Rattle.mega_wal.specs.declared.answers.LogFault.{LogFault}
use Rattle.mega_wal.specs.declared.answers.LogFault.TheVariants as log

abbrev pub log_fault_of : LogFault → NodeFault
log_fault_of log.DiskFault = DiskFault
log_fault_of (log.Full length) = Full length
log_fault_of log.Spent = Spent
log_fault_of (log.BadRecord number) = BadRecord number
log_fault_of log.NoMemory = NoMemory

abbrev pub step_fault_of : StepFault → NodeFault
step_fault_of step.DiskFault = DiskFault
step_fault_of (step.Full length) = Full length
step_fault_of (step.BadRecord number) = BadRecord number
step_fault_of step.Unserved = Unformed
step_fault_of step.Stranger = Unformed
step_fault_of step.Late = Unformed
step_fault_of step.NoMemory = NoMemory

abbrev pub fault_of : UpFault → NodeFault
fault_of (up.Step fault) = step_fault_of fault
fault_of (up.Cut cut) = DiskFault
fault_of (up.Log fault) = log_fault_of fault
fault_of up.Unformed = Unformed
