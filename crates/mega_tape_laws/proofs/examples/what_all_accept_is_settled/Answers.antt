use Rattle.mega_tape_laws.proofs.Settling.{all_lawful, settled}
use Rattle.mega_tape_laws.proofs.examples.what_all_accept_is_settled.Goals as goal

pub returns-clause-lawful : goal.returns-clause-lawful
returns-clause-lawful c = all_lawful

pub returns-clause-settled : goal.returns-clause-settled
returns-clause-settled c = settled
