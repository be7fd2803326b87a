use Rattle.mega_leased_laws.specs.of_run_laws.of_tape_laws.of_promises.Promises.{log_of}
use Rattle.mega_calm_laws.proofs.Requests.{message_is_handled}
use Rattle.mega_calm_laws.proofs.calm_transactions.a_calm_pump_handles.Goals as goal

pub returns : goal.returns
returns f c h cuts now me n most text group message numbered stocked ready picks calm ends oldest there =
    message_is_handled c h cuts now me text numbered ends.0 group message n (log_of now.tape group) calm stocked ready picks oldest there most ends.1
