use Rattle.mega_clean_laws.proofs.Knowing.{reaches_applied, run_applied}
use Rattle.mega_clean_laws.proofs.laws.what_is_applied_is_reached.Goals as goal

pub returns-clause-decided : goal.returns-clause-decided
returns-clause-decided c = run_applied

pub returns-clause-reached : goal.returns-clause-reached
returns-clause-reached c = reaches_applied
