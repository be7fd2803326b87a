use Rattle.std.proofs.Common.{◌-◌}
use Rattle.mega_entry.specs.Entries.{cuts_of}
use Rattle.mega_entry.proofs.Cutting.{Coming}
use Rattle.mega_entry.proofs.cuts.take_cuts_of.Given as goal

abbrev pub invariant-loop-done : goal.invariant-loop-done
invariant-loop-done l = Coming (l.count - l.done) l.low l.writes_left l.sends_left l.cuts l.cursor (cuts_of l.count l.first l.writes l.sends l.fn.cursor)
