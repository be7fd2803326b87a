-- Which refusals of a transaction are faults of the store or of memory, and which error of the store a fault is.
use Rattle.std.specs.Prelude.{Option, Some, None, Result, Ok, Err}
use Rattle.mega_disk.specs.declared.versions.StoreError.{StoreError}
use Rattle.mega_disk.specs.declared.versions.StoreError.TheVariants as store
use Rattle.mega_outcome.specs.declared.answer.Turn.{Turn}
use Rattle.mega_outcome.specs.declared.answer.Turn.TheVariants as turn
use Rattle.mega_answers.specs.declared.fault.ActFault.{ActFault}
use Rattle.mega_answers.specs.declared.fault.ActFault.TheVariants.{BadRecord, DiskFault, Full, NoMemory, Unserved}

abbrev pub fault_of : Turn → Option ActFault
fault_of (turn.OtherGroup i) = None
fault_of (turn.BadRow i) = None
fault_of (turn.CheckFailed i) = None
fault_of (turn.NoRow i) = None
fault_of (turn.Overflow i) = None
fault_of (turn.TooLarge n) = None
fault_of turn.DiskFault = Some DiskFault
fault_of (turn.Full n) = Some (Full n)
fault_of (turn.BadRecord n) = Some (BadRecord n)
fault_of turn.NoMemory = Some NoMemory

-- the store's error that a fault is, where it is one
abbrev pub of_store : ActFault → Option StoreError
of_store DiskFault = Some store.DiskFault
of_store (Full n) = Some (store.Full n)
of_store (BadRecord n) = Some (store.BadRecord n)
of_store Unserved = None
of_store NoMemory = None

-- the store's own errors, of which want of memory is none
abbrev pub error_of : StoreError → Option StoreError
error_of store.DiskFault = Some store.DiskFault
error_of (store.Full n) = Some (store.Full n)
error_of (store.BadRecord n) = Some (store.BadRecord n)
error_of store.NoMemory = None

-- the store's error by which a call failed
abbrev pub failed_by : {T : Type 0} → Result T ActFault → Option StoreError
failed_by (Ok x) = None
failed_by (Err fault) = of_store fault
