use Rattle.mega_format_laws.proofs.Batches.{batch_short}
use Rattle.mega_format_laws.proofs.Handling.{handling_short}
use Rattle.mega_format_laws.proofs.Outcomes.{done_of}
use Rattle.mega_format_laws.proofs.Queues.{enter_short}
use Rattle.mega_format_laws.proofs.Texts.{no_op_short}
use Rattle.mega_format_laws.proofs.laws.outcomes_are_of_the_format.Goals as goal

pub returns-clause-transactions : goal.returns-clause-transactions
returns-clause-transactions c = done_of

pub returns-clause-batches : goal.returns-clause-batches
returns-clause-batches c = batch_short

pub returns-clause-nothing : goal.returns-clause-nothing
returns-clause-nothing c = λ who h. no_op_short (who.op).node (h.op).1

pub returns-clause-entering : goal.returns-clause-entering
returns-clause-entering c = enter_short

pub returns-clause-handling : goal.returns-clause-handling
returns-clause-handling c = λ s op group enter log h. handling_short s op group enter log h.handlers
