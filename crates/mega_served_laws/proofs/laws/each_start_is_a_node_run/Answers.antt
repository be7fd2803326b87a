use Rattle.mega_served_laws.proofs.Since.{start_is_run}
use Rattle.mega_served_laws.proofs.laws.each_start_is_a_node_run.Goals as goal

pub returns : goal.returns
returns c = start_is_run
