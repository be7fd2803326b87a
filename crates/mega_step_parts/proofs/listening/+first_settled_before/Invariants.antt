use Rattle.std.proofs.Common.{length}
use Rattle.mega_step_parts.proofs.listening.+first_settled_before.Given as goal

abbrev pub decreases-first_settled_before : goal.decreases-first_settled_before
decreases-first_settled_before l = length l.operations.now
