use Rattle.mega_ballot.proofs.Ordered.{irreflexive, transitive, total, zero_least}
use Rattle.mega_ballot.proofs.order.order_is_total.Goals as goal

pub returns : goal.returns
returns c = record { irreflexive = irreflexive; transitive = transitive; total = total; zero_least = zero_least }
