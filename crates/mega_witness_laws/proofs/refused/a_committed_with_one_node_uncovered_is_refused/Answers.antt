use Rattle.mega_witness_laws.proofs.refused.a_committed_with_one_node_uncovered_is_refused.Goals as goal
use Rattle.mega_witness_laws.proofs.Covered.{answers, not_own, not_settled}

pub returns-clause-refused : goal.returns-clause-refused
returns-clause-refused c = not_settled

pub returns-clause-cause : goal.returns-clause-cause
returns-clause-cause c = not_own

pub returns-clause-lawful : goal.returns-clause-lawful
returns-clause-lawful c = answers
