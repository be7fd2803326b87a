use Rattle.mega_tape_laws.proofs.Serial.{id_once, serial_entries}
use Rattle.mega_tape_laws.proofs.writes.writes_are_serial.Goals as goal

pub returns-clause-entries : goal.returns-clause-entries
returns-clause-entries c = serial_entries

pub returns-clause-once : goal.returns-clause-once
returns-clause-once c = id_once
