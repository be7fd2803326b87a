use Rattle.mega_replica.proofs.Growing.{follows_same}
use Rattle.mega_replica.proofs.laws.rows_follow_while_versions_stay.Goals as goal

pub returns : goal.returns
returns c = follows_same
