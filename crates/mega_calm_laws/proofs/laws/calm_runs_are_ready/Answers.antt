use Rattle.mega_calm_laws.proofs.Complete.{ready}
use Rattle.mega_calm_laws.proofs.laws.calm_runs_are_ready.Goals as goal

pub returns : goal.returns
returns f c usage cuts first events group n me fits few five cells calm full = ready c usage cuts first events few five cells fits me n group calm full
