use Rattle.mega_tape_laws.proofs.IndexWitnesses.{no_entry, no_user}
use Rattle.mega_tape_laws.proofs.indexes.an_entry_and_its_row_stand_together.Goals as goal

pub returns-clause-row : goal.returns-clause-row
returns-clause-row c = no_entry

pub returns-clause-entry : goal.returns-clause-entry
returns-clause-entry c = no_user
