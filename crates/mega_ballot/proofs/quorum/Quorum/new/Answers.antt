use Rattle.std.proofs.Common.{length, ◌<◌, ◌∙◌, arith, length-set}
use Rattle.mega_ballot.proofs.Marks.{bit_test, marks_more}
use Rattle.mega_ballot.proofs.quorum.Quorum.new.Goals as goal

pub loop-k-preserved : goal.loop-k-preserved
loop-k-preserved c = (length-set c.loop-k.marks c.loop-k.k _ ∙ c.loop-k.invariant.0, marks_more c.args.members c.loop-k.k c.loop-k.marks _ (omega arith) c.loop-k.invariant.1 (bit_test c.args.members c.loop-k.k (omega arith)))
