use Rattle.mega_node_laws.specs.Asking.{Asks}
use Rattle.mega_node_laws.proofs.Acting.{asks_press, asks_propose}
use Rattle.mega_node_laws.proofs.Rounds.{asks_hold, completes_hold, due_hold, takes_hold}
use Rattle.mega_node_laws.proofs.laws.rounds_only_ask.Goals as goal

pub returns-clause-begun : goal.returns-clause-begun
returns-clause-begun c s = asks_hold Asks s (asks_propose s)

pub returns-clause-completed : goal.returns-clause-completed
returns-clause-completed c s = completes_hold Asks s (asks_propose s)

pub returns-clause-heard : goal.returns-clause-heard
returns-clause-heard c s = takes_hold Asks s (asks_propose s)

pub returns-clause-ticked : goal.returns-clause-ticked
returns-clause-ticked c s p = due_hold Asks s (asks_propose s) p (λ ballot entry cover sent is. asks_press s)
