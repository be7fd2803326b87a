use Rattle.mega_calm_laws.proofs.Leading.{has_leader}
use Rattle.mega_calm_laws.proofs.laws.logs_have_leaders.Goals as goal

pub returns : goal.returns
returns f c usage cuts first events group voter fits cells votes = has_leader c usage cuts first events fits cells group voter votes
