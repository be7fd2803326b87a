use Rattle.mega_node_laws.specs.Asking.{Asks}
use Rattle.mega_node_laws.proofs.Acting.{asks_act, asks_cover, does_due_hold, hears_message_hold}
use Rattle.mega_node_laws.proofs.laws.operations_only_ask.Goals as goal

pub returns-clause-heard : goal.returns-clause-heard
returns-clause-heard c s = hears_message_hold Asks s (asks_act s)

pub returns-clause-ticked : goal.returns-clause-ticked
returns-clause-ticked c s = does_due_hold Asks s (asks_act s) (asks_cover s)
