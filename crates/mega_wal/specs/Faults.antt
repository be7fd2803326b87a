-- What the logs answer where their records refuse a call.
use Rattle.mega_disk.specs.declared.records.RecordError.{RecordError}
use Rattle.mega_disk.specs.declared.records.RecordError.TheVariants as cause
use Rattle.mega_wal.specs.declared.answers.LogFault.{LogFault}
use Rattle.mega_wal.specs.declared.answers.LogFault.TheVariants.{DiskFault, Full, Spent, NoMemory}

-- the same cause
abbrev pub fault_of : RecordError → LogFault
fault_of cause.DiskFault = DiskFault
fault_of (cause.Full length) = Full length
fault_of cause.Spent = Spent
fault_of cause.NoMemory = NoMemory
