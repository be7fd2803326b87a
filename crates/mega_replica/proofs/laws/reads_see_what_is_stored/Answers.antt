use Rattle.mega_replica.proofs.Reading.{stored_is}
use Rattle.mega_replica.proofs.laws.reads_see_what_is_stored.Goals as goal

pub returns : goal.returns
returns c = stored_is
