use Rattle.mega_tape_laws.proofs.GrowingSchemas.{look_at_known}
use Rattle.mega_tape_laws.proofs.growing.fitting_rows_look_at_known.Goals as goal

pub returns : goal.returns
returns c = λ s group rows i changes declared fit. look_at_known s declared group rows fit i changes
