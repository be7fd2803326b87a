-- What a journal shows of its device.
use Rattle.mega_journal.specs.declared.journal.Journal.{Journal}

-- the device that it stands on
abbrev pub disk_of : {D : Type 0} {g : _} → Journal D g → D
disk_of journal = journal.disk
