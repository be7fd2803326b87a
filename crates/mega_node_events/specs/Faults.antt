-- Why a step did not come about where its operations did not act, or its message was not taken, and which error of the store that is.
use Rattle.std.specs.Prelude.{Result, Ok, Err, Option, Some, None}
use Rattle.mega_disk.specs.declared.versions.StoreError.{StoreError}
use Rattle.mega_disk.specs.declared.versions.StoreError.TheVariants as store
use Rattle.mega_actions.specs.of_answers.declared.fault.ActFault.{ActFault}
use Rattle.mega_actions.specs.of_answers.declared.fault.ActFault.TheVariants as act
use Rattle.mega_step_parts.specs.of_leases.declared.fault.TakeFault.{TakeFault}
use Rattle.mega_step_parts.specs.of_leases.declared.fault.TakeFault.TheVariants as take
use Rattle.mega_node_events.specs.declared.fault.StepFault.{StepFault}
use Rattle.mega_node_events.specs.declared.fault.StepFault.TheVariants as step

abbrev pub fault_of : ActFault → StepFault
fault_of act.DiskFault = step.DiskFault
fault_of (act.Full length) = step.Full length
fault_of (act.BadRecord number) = step.BadRecord number
fault_of act.Unserved = step.Unserved
fault_of act.NoMemory = step.NoMemory

abbrev pub taking_fault_of : TakeFault → StepFault
taking_fault_of take.Stranger = step.Stranger
taking_fault_of take.Late = step.Late
taking_fault_of take.NoMemory = step.NoMemory

-- the store's error that a fault is, where it is one
abbrev pub of_store : StepFault → Option StoreError
of_store step.DiskFault = Some store.DiskFault
of_store (step.Full length) = Some (store.Full length)
of_store (step.BadRecord number) = Some (store.BadRecord number)
of_store step.Unserved = None
of_store step.Stranger = None
of_store step.Late = None
of_store step.NoMemory = None

-- the store's error by which a step failed
abbrev pub failed_by : {T : Type 0} → Result T StepFault → Option StoreError
failed_by (Ok made) = None
failed_by (Err fault) = of_store fault
