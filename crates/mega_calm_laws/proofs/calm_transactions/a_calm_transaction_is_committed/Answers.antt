use Rattle.mega_leased_laws.specs.of_run_laws.of_tape_laws.of_promises.Promises.{log_of}
use Rattle.mega_calm_laws.proofs.Requests.{transaction_is_committed}
use Rattle.mega_calm_laws.proofs.calm_transactions.a_calm_transaction_is_committed.Goals as goal

pub returns : goal.returns
returns f c h cuts now me n most transaction text done numbered stocked ready calm ends comes =
    transaction_is_committed c h cuts now me text numbered ends.0 transaction n (log_of now.tape transaction.group) calm stocked ready done comes most ends.1
