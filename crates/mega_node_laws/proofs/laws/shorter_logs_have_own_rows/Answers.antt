use Rattle.mega_node_laws.proofs.Owned.{shorter_owns}
use Rattle.mega_node_laws.proofs.laws.shorter_logs_have_own_rows.Goals as goal

pub returns : goal.returns
returns c = shorter_owns
