use Rattle.mega_outcome.proofs.GrownChanges.{outcome_same}
use Rattle.mega_outcome.proofs.laws.outcomes_stay_under_more_properties.Goals as goal

pub returns : goal.returns
returns c = outcome_same
