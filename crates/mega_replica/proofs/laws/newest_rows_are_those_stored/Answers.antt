use Rattle.mega_replica.proofs.Reading.{newest_is}
use Rattle.mega_replica.proofs.laws.newest_rows_are_those_stored.Goals as goal

pub returns : goal.returns
returns c = newest_is
