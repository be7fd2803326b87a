-- Which stops a part of a backup or a restore may give, and the statuses with which the program then ends.
use Rattle.std.specs.Prelude.{◌≡◌, ℕ, ◌⊎◌}
use Rattle.mega_backup.specs.declared.fault.BackupFault.{BackupFault}
use Rattle.mega_backup.specs.declared.fault.BackupFault.TheVariants as fault
use Rattle.mega_disk.specs.declared.records.RecordError.{RecordError}
use Rattle.mega_disk.specs.declared.records.RecordError.TheVariants as error
use Rattle.mega_wal.specs.declared.answers.LogFault.{LogFault}
use Rattle.mega_wal.specs.declared.answers.LogFault.TheVariants as log
use Rattle.mega_backup_words.specs.declared.stop.Stop.{Stop}
use Rattle.mega_backup_words.specs.declared.stop.Stop.TheVariants.{Header, Source, Sink, Device, NoMemory, Malformed, Short, TooLarge, BadRecord}

-- the stop of a fault
abbrev pub stop_of : BackupFault → Stop
stop_of (fault.Short has) = Short has
stop_of (fault.Malformed line) = Malformed line
stop_of (fault.TooLarge key) = TooLarge key
stop_of fault.SinkFault = Sink
stop_of fault.NoMemory = NoMemory

-- the stop of a device that was not opened, and of a log; either has one cause beside want of memory
abbrev pub device_stop_of : RecordError → Stop
device_stop_of error.DiskFault = Device
device_stop_of (error.Full length) = NoMemory
device_stop_of error.Spent = NoMemory
device_stop_of error.NoMemory = NoMemory

abbrev pub log_stop_of : LogFault → Stop
log_stop_of (log.BadRecord number) = BadRecord
log_stop_of log.DiskFault = NoMemory
log_stop_of (log.Full length) = NoMemory
log_stop_of log.Spent = NoMemory
log_stop_of log.NoMemory = NoMemory

-- a fault of the source, or want of memory
abbrev pub IsReadStop : Stop → Type 0
IsReadStop Source = Unit {0}
IsReadStop NoMemory = Unit {0}
IsReadStop _ = ⊥

-- a fault of the sink, or want of memory
abbrev pub IsSinkStop : Stop → Type 0
IsSinkStop Sink = Unit {0}
IsSinkStop NoMemory = Unit {0}
IsSinkStop _ = ⊥

-- a rule that the header breaks, or one of these
abbrev pub IsHeaderStop : Stop → Type 0
IsHeaderStop (Header rule) = Unit {0}
IsHeaderStop Source = Unit {0}
IsHeaderStop NoMemory = Unit {0}
IsHeaderStop _ = ⊥

-- a fault of the device, a record that is none, or want of memory
abbrev pub IsOpeningStop : Stop → Type 0
IsOpeningStop Device = Unit {0}
IsOpeningStop BadRecord = Unit {0}
IsOpeningStop NoMemory = Unit {0}
IsOpeningStop _ = ⊥

-- a log that is too short, a fault of the sink, or want of memory
abbrev pub IsWriteStop : Stop → Type 0
IsWriteStop (Short has) = Unit {0}
IsWriteStop Sink = Unit {0}
IsWriteStop NoMemory = Unit {0}
IsWriteStop _ = ⊥

-- any stop of a log
abbrev pub IsLogStop : Stop → Type 0
IsLogStop (Header rule) = ⊥
IsLogStop Source = ⊥
IsLogStop (Malformed line) = ⊥
IsLogStop (TooLarge key) = ⊥
IsLogStop _ = Unit {0}

-- any stop of a backup
abbrev pub IsBackupStop : Stop → Type 0
IsBackupStop (Malformed line) = ⊥
IsBackupStop (TooLarge key) = ⊥
IsBackupStop _ = Unit {0}

-- any stop of the lines behind a header
abbrev pub IsRowStop : Stop → Type 0
IsRowStop (Header rule) = ⊥
IsRowStop Source = ⊥
IsRowStop Device = ⊥
IsRowStop BadRecord = ⊥
IsRowStop _ = Unit {0}

-- any stop of a restore
abbrev pub IsRestoreStop : Stop → Type 0
IsRestoreStop Device = ⊥
IsRestoreStop BadRecord = ⊥
IsRestoreStop _ = Unit {0}

-- the statuses with which a backup ends, and a restore
abbrev pub IsBackupStatus : ℕ → Type 0
IsBackupStatus status = (status ≡ 0) ⊎ (status ≡ 3) ⊎ (status ≡ 5) ⊎ (status ≡ 6) ⊎ (status ≡ 7) ⊎ (status ≡ 8) ⊎ (status ≡ 13) ⊎ (status ≡ 16)

abbrev pub IsRestoreStatus : ℕ → Type 0
IsRestoreStatus status = (status ≡ 0) ⊎ (status ≡ 3) ⊎ (status ≡ 5) ⊎ (status ≡ 6) ⊎ (status ≡ 8) ⊎ (status ≡ 12) ⊎ (status ≡ 13) ⊎ (status ≡ 14)
