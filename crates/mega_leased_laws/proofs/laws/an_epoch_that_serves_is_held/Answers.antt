use Rattle.mega_leased_laws.proofs.Held.{run_held}
use Rattle.mega_leased_laws.proofs.laws.an_epoch_that_serves_is_held.Goals as goal

pub returns : goal.returns
returns c = run_held
