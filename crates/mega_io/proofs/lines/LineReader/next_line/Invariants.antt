use Rattle.std.proofs.Common.{◌≤◌}
use Rattle.std.specs.Io.KnownBytes.{prepend_known}
use Rattle.mega_io.proofs.Breaks.{HasRead}
use Rattle.mega_io.proofs.lines.LineReader.next_line.Given as goal

abbrev pub invariant-loop : goal.invariant-loop
invariant-loop g l =
    HasRead (prepend_known l.fn.self (g.I.Source.left l.fn.source)) (prepend_known l.self (g.I.Source.left l.source)) l.line l.most
    × (g.I.Source.faults l.fn.source ≤ g.I.Source.faults l.source)
