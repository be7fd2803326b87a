use Rattle.mega_two_laws.proofs.Whole.{endings_true}
use Rattle.mega_two_laws.proofs.laws.drivers_end_truly.Goals as goal

pub returns : goal.returns
returns c = endings_true
