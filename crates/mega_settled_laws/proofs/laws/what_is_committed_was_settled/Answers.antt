use Rattle.mega_settled_laws.proofs.Answering.{run_settled}
use Rattle.mega_settled_laws.proofs.laws.what_is_committed_was_settled.Goals as goal

pub returns : goal.returns
returns c = run_settled
