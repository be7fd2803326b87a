use Rattle.mega_node_laws.proofs.Followed.{follows_after}
use Rattle.mega_node_laws.proofs.laws.rows_follow_all_that_is_met.Goals as goal

pub returns : goal.returns
returns c = follows_after
