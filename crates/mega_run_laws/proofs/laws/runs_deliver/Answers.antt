use Rattle.mega_tape_laws.proofs.Sending.{messages}
use Rattle.mega_run_laws.proofs.Runs.{run_written}
use Rattle.mega_run_laws.proofs.laws.runs_deliver.Goals as goal

pub returns : goal.returns
returns c = λ cluster usage handlers first events tape same run fits. messages cluster usage tape handlers same (run_written cluster usage first events tape run fits)
