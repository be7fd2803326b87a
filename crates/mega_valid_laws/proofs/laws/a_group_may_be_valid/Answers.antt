use Rattle.std.proofs.Common.{refl}
use Rattle.mega_valid_laws.proofs.Witness.{held, leased, polls, settled}
use Rattle.mega_valid_laws.proofs.laws.a_group_may_be_valid.Goals as goal

pub returns-clause-leased : goal.returns-clause-leased
returns-clause-leased c = leased

pub returns-clause-polled : goal.returns-clause-polled
returns-clause-polled c = polls

pub returns-clause-settled : goal.returns-clause-settled
returns-clause-settled c = settled

pub returns-clause-valid : goal.returns-clause-valid
returns-clause-valid c = refl

pub returns-clause-held : goal.returns-clause-held
returns-clause-held c = held
