use Rattle.mega_answer_laws.proofs.Runs.{run_answers}
use Rattle.mega_answer_laws.proofs.laws.every_answer_has_its_cause.Goals as goal

pub returns : goal.returns
returns c = run_answers
