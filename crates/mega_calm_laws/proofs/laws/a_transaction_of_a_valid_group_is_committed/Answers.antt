use Rattle.mega_calm_laws.proofs.Transacting.{transaction_committed}
use Rattle.mega_calm_laws.proofs.laws.a_transaction_of_a_valid_group_is_committed.Goals as goal

pub returns : goal.returns
returns f c h cuts now me n leader most transaction text done numbered calm ends valid next comes = transaction_committed c h cuts now me text numbered ends.0 n leader transaction calm valid next done comes most ends.1
