use Rattle.mega_two_outcome_laws.proofs.Requested.{planned_so, decided_so, prepared_so, finished_so}
use Rattle.mega_two_outcome_laws.proofs.laws.transactions_are_steps.Goals as goal

pub returns-clause-planned : goal.returns-clause-planned
returns-clause-planned c = planned_so

pub returns-clause-decided : goal.returns-clause-decided
returns-clause-decided c = decided_so

pub returns-clause-prepared : goal.returns-clause-prepared
returns-clause-prepared c = prepared_so

pub returns-clause-finished : goal.returns-clause-finished
returns-clause-finished c = finished_so
