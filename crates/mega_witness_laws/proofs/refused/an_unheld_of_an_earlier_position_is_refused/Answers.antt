use Rattle.mega_witness_laws.proofs.refused.an_unheld_of_an_earlier_position_is_refused.Goals as goal
use Rattle.mega_witness_laws.proofs.Covered.{not_settled_second, settled_first}

pub returns-clause-refused : goal.returns-clause-refused
returns-clause-refused c = not_settled_second

pub returns-clause-settled : goal.returns-clause-settled
returns-clause-settled c = settled_first
