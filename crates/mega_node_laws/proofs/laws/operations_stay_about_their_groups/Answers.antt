use Rattle.mega_node_laws.proofs.Walk.{does_due_about, hears_message_about}
use Rattle.mega_node_laws.proofs.Within.{acts_in_turn_about, begins_about, goes_on_about, ticked_about}
use Rattle.mega_node_laws.proofs.laws.operations_stay_about_their_groups.Goals as goal

pub returns-clause-heard : goal.returns-clause-heard
returns-clause-heard c = hears_message_about

pub returns-clause-due : goal.returns-clause-due
returns-clause-due c = does_due_about

pub returns-clause-goes_on : goal.returns-clause-goes_on
returns-clause-goes_on c = goes_on_about

pub returns-clause-begins : goal.returns-clause-begins
returns-clause-begins c = begins_about

pub returns-clause-in_turn : goal.returns-clause-in_turn
returns-clause-in_turn c = acts_in_turn_about

pub returns-clause-ticked : goal.returns-clause-ticked
returns-clause-ticked c = ticked_about
