use Rattle.mega_line_laws.proofs.Starting.{can_start}
use Rattle.mega_line_laws.proofs.laws.clusters_can_start.Goals as goal

pub returns : goal.returns
returns c = can_start
