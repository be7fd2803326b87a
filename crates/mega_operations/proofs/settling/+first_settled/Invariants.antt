use Rattle.std.proofs.Common.{length}
use Rattle.mega_operations.proofs.settling.+first_settled.Given as goal

abbrev pub decreases-first_settled : goal.decreases-first_settled
decreases-first_settled l = length l.heard.now
