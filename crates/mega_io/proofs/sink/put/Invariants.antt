use Rattle.std.proofs.Common.{◌≤◌, length}
use Rattle.mega_io.proofs.sink.put.Given as goal
use Rattle.mega_io.proofs.Writing.{Written}

abbrev pub invariant-loop-rest : goal.invariant-loop-rest
invariant-loop-rest g l = (Written (g.K.Sink.held l.fn.sink) (g.K.Sink.held l.sink) l.bytes l.rest) × (g.K.Sink.faults l.fn.sink ≤ g.K.Sink.faults l.sink)

abbrev pub decreases-loop-rest : goal.decreases-loop-rest
decreases-loop-rest g l = length l.rest
