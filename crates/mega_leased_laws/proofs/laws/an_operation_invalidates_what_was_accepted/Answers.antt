use Rattle.mega_leased_laws.proofs.Pressing.{run_pressed}
use Rattle.mega_leased_laws.proofs.laws.an_operation_invalidates_what_was_accepted.Goals as goal

pub returns : goal.returns
returns c = run_pressed
