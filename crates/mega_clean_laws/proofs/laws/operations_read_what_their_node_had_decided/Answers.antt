use Rattle.mega_clean_laws.proofs.Runs.{run_reaching}
use Rattle.mega_clean_laws.proofs.laws.operations_read_what_their_node_had_decided.Goals as goal

pub returns : goal.returns
returns c = run_reaching
