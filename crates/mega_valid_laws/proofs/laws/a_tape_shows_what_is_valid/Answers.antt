use Rattle.mega_valid_laws.proofs.Shows.{run_serves, run_valid}
use Rattle.mega_valid_laws.proofs.laws.a_tape_shows_what_is_valid.Goals as goal

pub returns-clause-serving : goal.returns-clause-serving
returns-clause-serving c = run_serves

pub returns-clause-valid : goal.returns-clause-valid
returns-clause-valid c = run_valid
