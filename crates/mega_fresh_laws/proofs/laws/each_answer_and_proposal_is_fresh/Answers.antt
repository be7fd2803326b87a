use Rattle.mega_fresh_laws.proofs.Covered.{run_fresh}
use Rattle.mega_fresh_laws.proofs.laws.each_answer_and_proposal_is_fresh.Goals as goal

pub returns : goal.returns
returns c = run_fresh
