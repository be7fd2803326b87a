use Rattle.mega_node_laws.proofs.Sent.{step_may}
use Rattle.mega_node_laws.proofs.laws.what_a_step_sends_may_be_sent.Goals as goal

pub returns : goal.returns
returns c = step_may
