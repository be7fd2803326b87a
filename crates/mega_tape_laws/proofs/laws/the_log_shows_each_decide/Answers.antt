use Rattle.mega_tape_laws.proofs.Logs.{shown_first}
use Rattle.mega_tape_laws.proofs.laws.the_log_shows_each_decide.Goals as goal

pub returns : goal.returns
returns c = shown_first
