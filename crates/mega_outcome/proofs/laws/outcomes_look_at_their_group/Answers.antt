use Rattle.mega_outcome.proofs.Group.{outcome_same, batch_same, read_rows_same}
use Rattle.mega_outcome.proofs.laws.outcomes_look_at_their_group.Goals as goal

pub returns-clause-alone : goal.returns-clause-alone
returns-clause-alone c = outcome_same

pub returns-clause-batched : goal.returns-clause-batched
returns-clause-batched c = batch_same

pub returns-clause-reads : goal.returns-clause-reads
returns-clause-reads c = read_rows_same
