use Rattle.mega_two_run_laws.proofs.Turns.{goes}
use Rattle.mega_two_run_laws.proofs.laws.changes_go_by_what_they_are_told.Goals as goal

pub returns : goal.returns
returns c = goes
