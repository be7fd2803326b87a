use Rattle.mega_run_laws.proofs.Runs.{run_written}
use Rattle.mega_row_laws.proofs.Nodes.{node_owns, tape_owns}
use Rattle.mega_row_laws.proofs.laws.runs_have_own_rows.Goals as goal

pub returns-clause-tapes : goal.returns-clause-tapes
returns-clause-tapes c = λ cluster usage first events tape declared run fits. tape_owns cluster usage tape (run_written cluster usage first events tape run fits) declared

pub returns-clause-nodes : goal.returns-clause-nodes
returns-clause-nodes c = node_owns
