use Rattle.mega_calm_laws.proofs.Freeing.{run_free}
use Rattle.mega_calm_laws.proofs.laws.calm_positions_are_free.Goals as goal

pub returns-clause-acts : goal.returns-clause-acts
returns-clause-acts f c cuts first events group n calm = (run_free c cuts first events group n calm).unmade

pub returns-clause-decides : goal.returns-clause-decides
returns-clause-decides f c cuts first events group n calm = (run_free c cuts first events group n calm).undecided
