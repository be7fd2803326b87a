use Rattle.mega_shown_laws.proofs.Clusters.{header_meets}
use Rattle.mega_shown_laws.proofs.laws.headers_meet_the_premises.Goals as goal

pub returns : goal.returns
returns c = header_meets
