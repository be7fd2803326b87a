use Rattle.mega_replica.proofs.Growing.{grows}
use Rattle.mega_replica.proofs.laws.rows_follow_longer_logs.Goals as goal

pub returns : goal.returns
returns c = λ version progress log longer more stored begins follows. grows version progress log longer stored more begins follows
