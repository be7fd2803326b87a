use Rattle.mega_format_laws.proofs.Brought.{copy_formed, credit_formed}
use Rattle.mega_format_laws.proofs.laws.handlers_are_of_the_format.Goals as goal

pub returns-clause-copies : goal.returns-clause-copies
returns-clause-copies c = copy_formed

pub returns-clause-credits : goal.returns-clause-credits
returns-clause-credits c = credit_formed
