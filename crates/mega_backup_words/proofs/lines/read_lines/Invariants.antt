use Rattle.std.proofs.Common.{◌≤◌}
use Rattle.std.specs.Io.KnownBytes.{prepend_known}
use Rattle.mega_backup_words.proofs.Within.{Gathers}
use Rattle.mega_backup_words.proofs.lines.read_lines.Given as goal

abbrev pub invariant-loop : goal.invariant-loop
invariant-loop g l =
    Gathers l.most (prepend_known l.fn.reader (g.I.Source.left l.fn.input)) l.lines.items l.room (prepend_known l.reader (g.I.Source.left l.input))
    × (g.I.Source.faults l.fn.input ≤ g.I.Source.faults l.input)
