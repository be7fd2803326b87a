use Rattle.mega_run_laws.proofs.Runs.{run_lawful}
use Rattle.mega_run_laws.proofs.laws.runs_are_lawful.Goals as goal

pub returns : goal.returns
returns c = run_lawful
