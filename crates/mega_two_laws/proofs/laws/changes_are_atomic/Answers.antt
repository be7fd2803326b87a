use Rattle.mega_two_laws.proofs.Whole.{changes_atomic}
use Rattle.mega_two_laws.proofs.laws.changes_are_atomic.Goals as goal

pub returns : goal.returns
returns c = changes_atomic
