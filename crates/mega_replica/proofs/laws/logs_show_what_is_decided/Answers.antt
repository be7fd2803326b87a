use Rattle.mega_replica.proofs.Logs.{log_shows}
use Rattle.mega_replica.proofs.laws.logs_show_what_is_decided.Goals as goal

pub returns : goal.returns
returns c = log_shows
