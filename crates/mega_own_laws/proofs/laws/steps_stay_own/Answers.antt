use Rattle.mega_own_laws.proofs.Steps.{step_own}
use Rattle.mega_own_laws.proofs.laws.steps_stay_own.Goals as goal

pub returns : goal.returns
returns c = λ s node event declared n e. step_own s declared node event n e
