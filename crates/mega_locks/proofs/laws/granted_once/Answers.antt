use Rattle.mega_locks.proofs.Marks.{once}
use Rattle.mega_locks.proofs.laws.granted_once.Goals as goal

pub returns : goal.returns
returns c = once
