use Rattle.mega_tape_laws.proofs.Serial.{own_entry}
use Rattle.mega_tape_laws.proofs.writes.each_entry_is_an_operations_own.Goals as goal

pub returns : goal.returns
returns c = own_entry
