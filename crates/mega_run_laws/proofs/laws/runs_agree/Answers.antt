use Rattle.mega_tape_laws.proofs.Agreement.{agreement}
use Rattle.mega_run_laws.proofs.Runs.{run_lawful}
use Rattle.mega_run_laws.proofs.laws.runs_agree.Goals as goal

pub returns : goal.returns
returns c = λ cluster first events tape run. agreement cluster tape (run_lawful cluster first events tape run)
