use Rattle.mega_calm_laws.proofs.Hands.{transaction_at_hand}
use Rattle.mega_calm_laws.proofs.laws.transactions_at_hand_are_committed.Goals as goal

pub returns : goal.returns
returns f = transaction_at_hand
