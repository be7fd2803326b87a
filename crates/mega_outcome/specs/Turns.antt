-- A store's fault as the refusal of a transaction.
use Rattle.mega_disk.specs.declared.versions.StoreError.{StoreError}
use Rattle.mega_disk.specs.declared.versions.StoreError.TheVariants as store
use Rattle.mega_outcome.specs.declared.answer.Turn.{Turn}
use Rattle.mega_outcome.specs.declared.answer.Turn.TheVariants.{DiskFault, Full, BadRecord, NoMemory}

abbrev pub turn_of : StoreError → Turn
turn_of store.DiskFault = DiskFault
turn_of (store.Full n) = Full n
turn_of (store.BadRecord n) = BadRecord n
turn_of store.NoMemory = NoMemory
