use Rattle.mega_clean_laws.proofs.Keeping.{dropped_keeps, keeps_higher, put_keeps, trimmed_keeps}
use Rattle.mega_clean_laws.proofs.laws.reads_above_a_cleaning_stay.Goals as goal

pub returns-clause-trimmed : goal.returns-clause-trimmed
returns-clause-trimmed c = trimmed_keeps

pub returns-clause-higher : goal.returns-clause-higher
returns-clause-higher c = keeps_higher

pub returns-clause-put : goal.returns-clause-put
returns-clause-put c = put_keeps

pub returns-clause-dropped : goal.returns-clause-dropped
returns-clause-dropped c = dropped_keeps
