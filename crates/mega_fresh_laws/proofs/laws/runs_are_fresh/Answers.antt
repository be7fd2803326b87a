use Rattle.mega_fresh_laws.proofs.Fresh.{run_is_fresh}
use Rattle.mega_fresh_laws.proofs.laws.runs_are_fresh.Goals as goal

pub returns : goal.returns
returns c = run_is_fresh
