use Rattle.mega_node_laws.proofs.KeptBySending.{all_sent_told, sending_told}
use Rattle.mega_node_laws.proofs.laws.what_is_met_stays_told.Goals as goal

pub returns-clause-one : goal.returns-clause-one
returns-clause-one c = sending_told

pub returns-clause-all : goal.returns-clause-all
returns-clause-all c = all_sent_told
