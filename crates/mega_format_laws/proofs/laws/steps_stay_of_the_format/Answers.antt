use Rattle.mega_format_laws.proofs.Whole.{whole_step}
use Rattle.mega_format_laws.proofs.laws.steps_stay_of_the_format.Goals as goal

pub returns : goal.returns
returns c = whole_step
