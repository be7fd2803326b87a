use Rattle.mega_locks.proofs.Marks.{fits_calls}
use Rattle.mega_locks.proofs.laws.held_is_the_last_grant.Goals as goal

pub returns : goal.returns
returns c = λ calls node. (fits_calls calls node).held
