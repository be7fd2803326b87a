use Rattle.std.proofs.Common.{◌-◌}
use Rattle.mega_base.proofs.Texts.{StopsAhead}
use Rattle.mega_base.proofs.cursor.Cursor.text_fault.Given as goal

abbrev pub invariant-loop-used : goal.invariant-loop-used
invariant-loop-used l = StopsAhead (l.count - l._used) l.room l.ahead l.count l.fn.self
