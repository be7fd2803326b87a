use Rattle.mega_two_run_laws.proofs.Names.{names_stay}
use Rattle.mega_two_run_laws.proofs.laws.driven_changes_keep_their_names.Goals as goal

pub returns : goal.returns
returns c = names_stay
