use Rattle.mega_tape_laws.proofs.Writing.{not_own}
use Rattle.mega_tape_laws.proofs.examples.an_entry_is_its_operations_own.Goals as goal

pub returns : goal.returns
returns c = not_own
