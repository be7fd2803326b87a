use Rattle.mega_two_outcome_laws.proofs.PlanSteps.{planned_text, decided_text, planned_request, decided_request}
use Rattle.mega_two_outcome_laws.proofs.laws.plans_are_put_and_decided.Goals as goal

pub returns-clause-planned : goal.returns-clause-planned
returns-clause-planned c = planned_text

pub returns-clause-decided : goal.returns-clause-decided
returns-clause-decided c = decided_text

pub returns-clause-asked : goal.returns-clause-asked
returns-clause-asked c = planned_request

pub returns-clause-asked_then : goal.returns-clause-asked_then
returns-clause-asked_then c = decided_request
