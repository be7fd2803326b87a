use Rattle.mega_calm_laws.proofs.Complete.{run_is_calm_complete}
use Rattle.mega_calm_laws.proofs.calm_transactions.runs_are_calm_complete.Goals as goal

pub returns : goal.returns
returns f c usage cuts first h events few five cells fits = run_is_calm_complete c usage cuts first h events few five cells fits
