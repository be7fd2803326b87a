use Rattle.mega_format_laws.proofs.Lines.{batch_request, finds, reads, txn_request}
use Rattle.mega_format_laws.proofs.laws.lines_are_of_the_format.Goals as goal

pub returns-clause-transactions : goal.returns-clause-transactions
returns-clause-transactions c = txn_request

pub returns-clause-batches : goal.returns-clause-batches
returns-clause-batches c = batch_request

pub returns-clause-reads : goal.returns-clause-reads
returns-clause-reads c = reads

pub returns-clause-finds : goal.returns-clause-finds
returns-clause-finds c = finds
