use Rattle.mega_leased_laws.proofs.Tops.{run_fresh}
use Rattle.mega_leased_laws.proofs.laws.a_local_read_covers_each_decision.Goals as goal

pub returns : goal.returns
returns c = run_fresh
