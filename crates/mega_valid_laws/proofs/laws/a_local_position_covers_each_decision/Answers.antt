use Rattle.mega_valid_laws.proofs.Decided.{run_local}
use Rattle.mega_valid_laws.proofs.laws.a_local_position_covers_each_decision.Goals as goal

pub returns : goal.returns
returns c = run_local
