use Rattle.mega_lease_laws.proofs.Behind.{run_heard, run_sent}
use Rattle.mega_lease_laws.proofs.laws.an_invalidated_stands_behind_its_invalid.Goals as goal

pub returns-clause-sent : goal.returns-clause-sent
returns-clause-sent c = run_sent

pub returns-clause-heard : goal.returns-clause-heard
returns-clause-heard c = run_heard
