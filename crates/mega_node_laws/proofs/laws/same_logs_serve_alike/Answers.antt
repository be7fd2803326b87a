use Rattle.mega_node_laws.proofs.Followed.{follows_same_logs}
use Rattle.mega_node_laws.proofs.Owned.{owned_of_same_logs, owned_same_logs}
use Rattle.mega_node_laws.proofs.Logs.{same_after}
use Rattle.mega_node_laws.proofs.laws.same_logs_serve_alike.Goals as goal

pub returns-clause-items : goal.returns-clause-items
returns-clause-items c = same_after

pub returns-clause-rows : goal.returns-clause-rows
returns-clause-rows c = follows_same_logs

pub returns-clause-own : goal.returns-clause-own
returns-clause-own c = owned_same_logs

pub returns-clause-back : goal.returns-clause-back
returns-clause-back c = owned_of_same_logs
