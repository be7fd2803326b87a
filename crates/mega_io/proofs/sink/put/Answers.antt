use Rattle.std.proofs.Common.{arith}
use Rattle.mega_io.proofs.Writing.{went_on, refused}
use Rattle.mega_io.proofs.sink.put.Goals as goal

pub loop-rest-preserved : goal.loop-rest-preserved
loop-rest-preserved g c = (rw c.split_at.ensures.back (went_on _ _ _ _ _ _ c.loop-rest.invariant.0 c.in-Ok.ensures.bytes), omega arith)

pub returns-in-Err-clause-err : goal.returns-in-Err-clause-err
returns-in-Err-clause-err g c = refused _ _ _ _ _ c.loop-rest.invariant.0 c.in-Err.ensures.bytes
