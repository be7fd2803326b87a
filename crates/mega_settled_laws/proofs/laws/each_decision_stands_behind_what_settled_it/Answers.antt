use Rattle.mega_settled_laws.proofs.Behind.{run_covered}
use Rattle.mega_settled_laws.proofs.laws.each_decision_stands_behind_what_settled_it.Goals as goal

pub returns : goal.returns
returns c = run_covered
