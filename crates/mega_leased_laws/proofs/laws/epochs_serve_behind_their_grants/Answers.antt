use Rattle.mega_leased_laws.proofs.Epochs.{run_serving}
use Rattle.mega_leased_laws.proofs.laws.epochs_serve_behind_their_grants.Goals as goal

pub returns : goal.returns
returns c = run_serving
