use Rattle.mega_node_laws.proofs.Completed.{completed_applied, completed_keeps}
use Rattle.mega_node_laws.proofs.laws.a_completed_read_is_applied.Goals as goal

pub returns-clause-through : goal.returns-clause-through
returns-clause-through c = completed_applied

pub returns-clause-others : goal.returns-clause-others
returns-clause-others c = completed_keeps
