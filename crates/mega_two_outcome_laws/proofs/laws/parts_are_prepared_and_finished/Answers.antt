use Rattle.mega_two_outcome_laws.proofs.PartSteps.{prepared_text, made_text, dropped_text, all_parts}
use Rattle.mega_two_outcome_laws.proofs.laws.parts_are_prepared_and_finished.Goals as goal

pub returns-clause-prepared : goal.returns-clause-prepared
returns-clause-prepared c = prepared_text

pub returns-clause-made : goal.returns-clause-made
returns-clause-made c = made_text

pub returns-clause-dropped : goal.returns-clause-dropped
returns-clause-dropped c = dropped_text

pub returns-clause-each : goal.returns-clause-each
returns-clause-each c = all_parts
