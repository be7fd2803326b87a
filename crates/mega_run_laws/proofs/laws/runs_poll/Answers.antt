use Rattle.mega_tape_laws.proofs.Polled.{polled_above}
use Rattle.mega_run_laws.proofs.Runs.{run_lawful, run_polls}
use Rattle.mega_run_laws.proofs.laws.runs_poll.Goals as goal

pub returns-clause-polls : goal.returns-clause-polls
returns-clause-polls c = run_polls

pub returns-clause-sees : goal.returns-clause-sees
returns-clause-sees c = λ cluster first events tape run. polled_above cluster tape (run_lawful cluster first events tape run) (run_polls cluster first events tape run)
