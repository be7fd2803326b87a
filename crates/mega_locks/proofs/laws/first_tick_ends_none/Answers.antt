use Rattle.mega_locks.proofs.Marks.{first_none}
use Rattle.mega_locks.proofs.laws.first_tick_ends_none.Goals as goal

pub returns : goal.returns
returns c = first_none
