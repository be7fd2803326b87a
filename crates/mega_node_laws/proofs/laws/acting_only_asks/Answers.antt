use Rattle.mega_node_laws.proofs.Within.{acts_in_turn_asks, begins_asks, completes_read_asks, goes_on_asks, ticked_asks}
use Rattle.mega_node_laws.proofs.laws.acting_only_asks.Goals as goal

pub returns-clause-completes_read : goal.returns-clause-completes_read
returns-clause-completes_read c = completes_read_asks

pub returns-clause-goes_on : goal.returns-clause-goes_on
returns-clause-goes_on c = goes_on_asks

pub returns-clause-begins : goal.returns-clause-begins
returns-clause-begins c = begins_asks

pub returns-clause-in_turn : goal.returns-clause-in_turn
returns-clause-in_turn c = acts_in_turn_asks

pub returns-clause-ticked : goal.returns-clause-ticked
returns-clause-ticked c = ticked_asks
