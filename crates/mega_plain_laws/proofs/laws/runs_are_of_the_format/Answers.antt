use Rattle.mega_plain_laws.proofs.Plain.{runs_spelled}
use Rattle.mega_plain_laws.proofs.laws.runs_are_of_the_format.Goals as goal

pub returns : goal.returns
returns c = runs_spelled
