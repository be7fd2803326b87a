use Rattle.std.proofs.Common.{◌<◌, length, arith}
use Rattle.mega_io.proofs.Breaks.{breaks_off, line_is_long, read_on}
use Rattle.mega_io.proofs.lines.LineReader.next_line.Goals as goal

pub returns-then-len-most-clause-line : goal.returns-then-len-most-clause-line
returns-then-len-most-clause-line g c =
    let long : c.args.most < length c.take_front.new.line = omega arith in
    line_is_long _ _ _ _ _ _ _ c.in-Ok.broken (read_on _ _ _ _ _ c.loop.invariant.0 c.refill.ensures.kept) c.in-Ok.ensures.part long

pub returns-in-Err-clause-fault : goal.returns-in-Err-clause-fault
returns-in-Err-clause-fault g c is =
    breaks_off _ _ _ c.args.most _ (read_on _ _ _ _ _ c.loop.invariant.0 c.refill.ensures.kept) c.in-Err.ensures.none
