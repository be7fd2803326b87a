use Rattle.mega_node_laws.proofs.Ending.{step_ends, step_met}
use Rattle.mega_node_laws.proofs.laws.a_step_ends_with_its_logs.Goals as goal

pub returns-clause-met : goal.returns-clause-met
returns-clause-met c = step_met

pub returns-clause-logs : goal.returns-clause-logs
returns-clause-logs c = step_ends
