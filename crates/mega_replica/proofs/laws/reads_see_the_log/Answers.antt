use Rattle.mega_replica.proofs.Reading.{read_is}
use Rattle.mega_replica.proofs.laws.reads_see_the_log.Goals as goal

pub returns : goal.returns
returns c = read_is
