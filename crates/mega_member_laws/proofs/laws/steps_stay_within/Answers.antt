use Rattle.mega_member_laws.proofs.Steps.{step_within}
use Rattle.mega_member_laws.proofs.laws.steps_stay_within.Goals as goal

pub returns : goal.returns
returns c = step_within
