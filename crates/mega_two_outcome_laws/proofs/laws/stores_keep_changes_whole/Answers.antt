use Rattle.mega_two_outcome_laws.proofs.Histories.{history_of, world_of, stores_atomic}
use Rattle.mega_two_outcome_laws.proofs.laws.stores_keep_changes_whole.Goals as goal

pub returns-clause-history : goal.returns-clause-history
returns-clause-history c = history_of

pub returns-clause-shows : goal.returns-clause-shows
returns-clause-shows c = world_of

pub returns-clause-atomic : goal.returns-clause-atomic
returns-clause-atomic c = stores_atomic
