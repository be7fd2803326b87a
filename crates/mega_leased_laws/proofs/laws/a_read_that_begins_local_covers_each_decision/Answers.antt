use Rattle.mega_leased_laws.proofs.Tops.{run_begins}
use Rattle.mega_leased_laws.proofs.laws.a_read_that_begins_local_covers_each_decision.Goals as goal

pub returns : goal.returns
returns c = run_begins
