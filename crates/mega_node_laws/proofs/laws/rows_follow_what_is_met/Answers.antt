use Rattle.mega_node_laws.proofs.Followed.{follows_more}
use Rattle.mega_node_laws.proofs.laws.rows_follow_what_is_met.Goals as goal

pub returns : goal.returns
returns c = follows_more
