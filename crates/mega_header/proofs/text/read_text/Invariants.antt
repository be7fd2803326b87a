use Rattle.std.proofs.Common.{◌≤◌, length}
use Rattle.std.specs.Io.KnownBytes.{prepend_known}
use Rattle.mega_header.specs.Known.{HasFront}
use Rattle.mega_header.proofs.text.read_text.Given as goal

abbrev pub invariant-loop : goal.invariant-loop
invariant-loop g l =
    HasFront (prepend_known l.fn.reader (g.I.Source.left l.fn.input)) (prepend_known l.reader (g.I.Source.left l.input)) l.text × (g.I.Source.faults l.fn.input ≤ g.I.Source.faults l.input) × (length l.text ≤ 262144)
