use Rattle.std.proofs.Common.{refl}
use Rattle.mega_clean_laws.proofs.laws.snapshots_read_what_is_applied.Goals as goal

pub returns-clause-reads : goal.returns-clause-reads
returns-clause-reads c = λ s now o request. refl

pub returns-clause-finds : goal.returns-clause-finds
returns-clause-finds c = λ s now o request group. refl
