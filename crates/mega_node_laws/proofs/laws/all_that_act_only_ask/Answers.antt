use Rattle.mega_node_laws.proofs.Within.{all_act_asks, all_ticked_ask}
use Rattle.mega_node_laws.proofs.laws.all_that_act_only_ask.Goals as goal

pub returns-clause-heard : goal.returns-clause-heard
returns-clause-heard c = all_act_asks

pub returns-clause-ticked : goal.returns-clause-ticked
returns-clause-ticked c = all_ticked_ask
