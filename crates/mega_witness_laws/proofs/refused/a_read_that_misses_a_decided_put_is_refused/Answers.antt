use Rattle.mega_witness_laws.proofs.refused.a_read_that_misses_a_decided_put_is_refused.Goals as goal
use Rattle.mega_witness_laws.proofs.Missed.{answers, not_fresh}

pub returns-clause-refused : goal.returns-clause-refused
returns-clause-refused c = not_fresh

pub returns-clause-lawful : goal.returns-clause-lawful
returns-clause-lawful c = answers
