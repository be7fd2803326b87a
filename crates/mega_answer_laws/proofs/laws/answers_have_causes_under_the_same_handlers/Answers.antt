use Rattle.mega_answer_laws.proofs.Runs.{run_causes}
use Rattle.mega_answer_laws.proofs.laws.answers_have_causes_under_the_same_handlers.Goals as goal

pub returns : goal.returns
returns c = run_causes
