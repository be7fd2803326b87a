use Rattle.mega_tape_laws.proofs.GrowingSchemas.{outcome_stays}
use Rattle.mega_tape_laws.proofs.growing.outcomes_stay_as_schemas_grow.Goals as goal

pub returns : goal.returns
returns c = outcome_stays
