use Rattle.mega_own_laws.proofs.Steps.{acts_on_own, all_act_on_own}
use Rattle.mega_own_laws.proofs.laws.steps_act_on_own_logs.Goals as goal

pub returns-clause-once : goal.returns-clause-once
returns-clause-once c = λ s node event declared n e. acts_on_own s declared node event n e

pub returns-clause-always : goal.returns-clause-always
returns-clause-always c = λ s node events declared n each. all_act_on_own s declared node events n each
