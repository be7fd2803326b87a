use Rattle.mega_calm_laws.proofs.Stocking.{run_stocked}
use Rattle.mega_calm_laws.proofs.laws.calm_groups_are_stocked.Goals as goal

pub returns : goal.returns
returns f c usage cuts first events group fits calm = run_stocked c usage cuts first events fits group calm
