use Rattle.std.proofs.Common.{◌≤◌, ◌<◌, length}
use Rattle.std.specs.Io.KnownBytes.{Keeps, prepend_known}
use Rattle.picture.proofs.source.read_all.Given as goal

abbrev pub invariant-loop : goal.invariant-loop
invariant-loop g l =
    Keeps (g.I.Source.left l.fn.input) (prepend_known l.text (g.I.Source.left l.input)) × (g.I.Source.faults l.fn.input ≤ g.I.Source.faults l.input) × (0 < length l.chunk.items)
