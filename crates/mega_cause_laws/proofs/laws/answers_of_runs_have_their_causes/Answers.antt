use Rattle.mega_cause_laws.proofs.LogTells.{run_causes}
use Rattle.mega_cause_laws.proofs.laws.answers_of_runs_have_their_causes.Goals as goal

pub returns : goal.returns
returns c = run_causes
