use Rattle.mega_witness_laws.proofs.refused.a_validate_across_an_epoch_is_refused.Goals as goal
use Rattle.mega_witness_laws.proofs.Across.{leased, not_leased}

pub returns-clause-refused : goal.returns-clause-refused
returns-clause-refused c = not_leased

pub returns-clause-leased : goal.returns-clause-leased
returns-clause-leased c = leased
