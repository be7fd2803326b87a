use Rattle.mega_locks.proofs.Marks.{due}
use Rattle.mega_locks.proofs.laws.lapses_at_its_time.Goals as goal

pub returns : goal.returns
returns c = due
