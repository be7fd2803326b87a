use Rattle.mega_voter.specs.of_read.Catching.{site}
use Rattle.mega_node_laws.specs.Asking.{Asks}
use Rattle.mega_node_laws.proofs.Acting.{asks_press, asks_propose, asks_read}
use Rattle.mega_node_laws.proofs.Rounds.{due_hold}
use Rattle.mega_node_laws.proofs.Reading.{falls_due_hold, hears_hold, local_hold, polled_hold, seeks_hold}
use Rattle.mega_node_laws.proofs.laws.reads_only_ask.Goals as goal

pub returns-clause-local : goal.returns-clause-local
returns-clause-local c = local_hold Asks

pub returns-clause-polled : goal.returns-clause-polled
returns-clause-polled c who = polled_hold Asks who (asks_read who)

pub returns-clause-heard : goal.returns-clause-heard
returns-clause-heard c who = hears_hold Asks who (asks_read who)

pub returns-clause-ticked : goal.returns-clause-ticked
returns-clause-ticked c who r retry now =
    falls_due_hold Asks who (asks_read who) r retry now
    (λ through position p is. due_hold Asks (site who r.asked position) (asks_propose (site who r.asked position)) p (λ ballot entry cover sent k. asks_press (site who r.asked position)) retry now)

pub returns-clause-sought : goal.returns-clause-sought
returns-clause-sought c who = seeks_hold Asks who (asks_read who)
