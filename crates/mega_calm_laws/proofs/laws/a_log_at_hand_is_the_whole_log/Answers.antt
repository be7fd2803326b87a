use Rattle.mega_calm_laws.proofs.Wholes.{run_whole}
use Rattle.mega_calm_laws.proofs.laws.a_log_at_hand_is_the_whole_log.Goals as goal

pub returns : goal.returns
returns f = run_whole
