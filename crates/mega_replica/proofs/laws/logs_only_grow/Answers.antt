use Rattle.mega_replica.proofs.Logs.{log_grows}
use Rattle.mega_replica.proofs.laws.logs_only_grow.Goals as goal

pub returns : goal.returns
returns c = log_grows
