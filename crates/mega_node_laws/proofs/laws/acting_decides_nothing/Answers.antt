use Rattle.mega_node_laws.proofs.Within.{acts_in_turn_logs, begins_logs, completes_read_logs, goes_on_logs, ticked_logs}
use Rattle.mega_node_laws.proofs.laws.acting_decides_nothing.Goals as goal

pub returns-clause-completes_read : goal.returns-clause-completes_read
returns-clause-completes_read c = completes_read_logs

pub returns-clause-goes_on : goal.returns-clause-goes_on
returns-clause-goes_on c = goes_on_logs

pub returns-clause-begins : goal.returns-clause-begins
returns-clause-begins c = begins_logs

pub returns-clause-in_turn : goal.returns-clause-in_turn
returns-clause-in_turn c = acts_in_turn_logs

pub returns-clause-ticked : goal.returns-clause-ticked
returns-clause-ticked c = ticked_logs
