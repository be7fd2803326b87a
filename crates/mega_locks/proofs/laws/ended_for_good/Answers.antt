use Rattle.mega_locks.proofs.Marks.{for_good}
use Rattle.mega_locks.proofs.laws.ended_for_good.Goals as goal

pub returns : goal.returns
returns c = for_good
