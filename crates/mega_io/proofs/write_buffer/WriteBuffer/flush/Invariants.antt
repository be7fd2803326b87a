use Rattle.std.proofs.Common.{◌≤◌, ◌-◌, drop, length}
use Rattle.std.specs.Io.KnownBytes.{append_known, Keeps}
use Rattle.mega_io.proofs.write_buffer.WriteBuffer.flush.Given as goal

abbrev pub invariant-loop-self : goal.invariant-loop-self
invariant-loop-self g l =
    Keeps (append_known (g.K.Sink.held l.fn.sink) l.fn.self) (append_known (g.K.Sink.held l.sink) (drop l.self-inside.sent l.self-inside.pieces))
    × (g.K.Sink.faults l.fn.sink ≤ g.K.Sink.faults l.sink) × (l.self-inside.sent ≤ length l.self-inside.pieces)

abbrev pub decreases-loop-self : goal.decreases-loop-self
decreases-loop-self g l = length l.self-inside.pieces - l.self-inside.sent
