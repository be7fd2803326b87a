use Rattle.std.proofs.Common.{◌≡◌, ◌+◌, drop}
use Rattle.mega_backup.specs.Lines.{entries_from, entries_before}
use Rattle.mega_backup.proofs.reading.entries_of.Given as goal

abbrev pub invariant-loop-line : goal.invariant-loop-line
invariant-loop-line l = record {
  read : entries_before l.entries (entries_from l.number (drop l.line-index l.lines)) ≡ entries_from 2 l.lines;
  counted : l.number ≡ l.line-index + 2;
}
