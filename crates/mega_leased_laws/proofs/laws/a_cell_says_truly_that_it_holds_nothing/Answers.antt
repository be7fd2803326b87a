use Rattle.mega_leased_laws.proofs.Cells.{run_freed}
use Rattle.mega_leased_laws.proofs.laws.a_cell_says_truly_that_it_holds_nothing.Goals as goal

pub returns : goal.returns
returns c = run_freed
