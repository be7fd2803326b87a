use Rattle.mega_leased_laws.specs.of_run_laws.of_tape_laws.of_promises.Promises.{log_of}
use Rattle.mega_calm_laws.proofs.Requests.{message_is_entered}
use Rattle.mega_calm_laws.proofs.calm_transactions.a_calm_pump_enters.Goals as goal

pub returns : goal.returns
returns f c h cuts now me n most text one numbered stocked ready picks calm ends fresh =
    message_is_entered c h cuts now me text numbered ends.0 one n (log_of now.tape one.to) calm stocked ready picks fresh most ends.1
