use Rattle.mega_turn_laws.proofs.Steps.{may_step}
use Rattle.mega_turn_laws.proofs.laws.steps_may_happen.Goals as goal

pub returns : goal.returns
returns c = may_step
