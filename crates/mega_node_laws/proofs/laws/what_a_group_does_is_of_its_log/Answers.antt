use Rattle.mega_node_laws.proofs.Owned.{batch_is, outcome_is, rows_are}
use Rattle.mega_node_laws.proofs.laws.what_a_group_does_is_of_its_log.Goals as goal

pub returns-clause-alone : goal.returns-clause-alone
returns-clause-alone c = outcome_is

pub returns-clause-batched : goal.returns-clause-batched
returns-clause-batched c = batch_is

pub returns-clause-reads : goal.returns-clause-reads
returns-clause-reads c = rows_are
