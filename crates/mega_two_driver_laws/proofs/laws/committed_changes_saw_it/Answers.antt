use Rattle.mega_two_driver_laws.proofs.Saw.{begun_seen, recovered_seen}
use Rattle.mega_two_driver_laws.proofs.laws.committed_changes_saw_it.Goals as goal

pub returns-clause-begun : goal.returns-clause-begun
returns-clause-begun c = begun_seen

pub returns-clause-recovered : goal.returns-clause-recovered
returns-clause-recovered c = recovered_seen
