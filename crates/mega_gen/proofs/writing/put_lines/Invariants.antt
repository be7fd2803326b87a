use Rattle.std.proofs.Common.{◌+◌, ◌≤◌}
use Rattle.mega_io.proofs.Writing.{Written}
use Rattle.mega_gen.proofs.Streams.{to_write}
use Rattle.mega_gen.proofs.writing.put_lines.Given as goal

abbrev pub invariant-loop-page : goal.invariant-loop-page
invariant-loop-page g l =
    Written (g.O.Sink.held l.fn.out) (g.O.Sink.held l.out) (to_write l.count l.nodes 0 l.seed) (to_write l.page.left l.nodes l.now l.state)
    × (g.O.Sink.faults l.fn.out ≤ g.O.Sink.faults l.out) × (l.now + l.page.left ≤ l.count)

abbrev pub decreases-loop-page : goal.decreases-loop-page
decreases-loop-page g l = l.page.left
