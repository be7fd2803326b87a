use Rattle.mega_node_laws.proofs.Sent.{all_asking_may, answer_after, asking_may, reply_may}
use Rattle.mega_node_laws.proofs.laws.what_may_be_sent.Goals as goal

pub returns-clause-asks : goal.returns-clause-asks
returns-clause-asks c = asking_may

pub returns-clause-all : goal.returns-clause-all
returns-clause-all c = all_asking_may

pub returns-clause-later : goal.returns-clause-later
returns-clause-later c = answer_after

pub returns-clause-reply : goal.returns-clause-reply
returns-clause-reply c = reply_may
