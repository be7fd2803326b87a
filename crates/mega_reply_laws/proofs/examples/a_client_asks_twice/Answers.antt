use Rattle.mega_reply_laws.proofs.Twice.{all_ended, both_opened, none_replied, one_ended, one_replied, two_replied}
use Rattle.mega_reply_laws.proofs.examples.a_client_asks_twice.Goals as goal

pub returns-clause-none : goal.returns-clause-none
returns-clause-none c = none_replied

pub returns-clause-opened : goal.returns-clause-opened
returns-clause-opened c = both_opened

pub returns-clause-one : goal.returns-clause-one
returns-clause-one c = one_replied

pub returns-clause-ended : goal.returns-clause-ended
returns-clause-ended c = one_ended

pub returns-clause-two : goal.returns-clause-two
returns-clause-two c = two_replied

pub returns-clause-all : goal.returns-clause-all
returns-clause-all c = all_ended
