use Rattle.mega_shown_laws.proofs.Runs.{rows_shown_fit}
use Rattle.mega_shown_laws.proofs.laws.shown_rows_fit.Goals as goal

pub returns : goal.returns
returns c = rows_shown_fit
