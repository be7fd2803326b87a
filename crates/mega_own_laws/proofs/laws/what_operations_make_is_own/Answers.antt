use Rattle.std.proofs.Common.{refl}
use Rattle.mega_own_laws.proofs.Making.{batch_own, done_own, handling_own, nothing_own, others_apart}
use Rattle.mega_own_laws.proofs.laws.what_operations_make_is_own.Goals as goal

pub returns-clause-transactions : goal.returns-clause-transactions
returns-clause-transactions c = λ schema op transaction rows done declared comes. done_own schema declared op transaction.group transaction rows done refl comes

pub returns-clause-batches : goal.returns-clause-batches
returns-clause-batches c = λ schema op group transactions rows declared. batch_own schema declared op group group transactions rows refl

pub returns-clause-handling : goal.returns-clause-handling
returns-clause-handling c = λ s op group message rows declared. handling_own s declared op group message rows

pub returns-clause-nothing : goal.returns-clause-nothing
returns-clause-nothing c = nothing_own

pub returns-clause-others : goal.returns-clause-others
returns-clause-others c = others_apart
