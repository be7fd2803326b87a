use Rattle.std.proofs.Common.{◌≡◌, ◌-◌, ◌+◌, suc, Ok, arith}
use Rattle.mega_base.specs.Reading.{Read}
use Rattle.mega_entry.specs.Entries.{cut_in, least_part}
use Rattle.mega_entry.proofs.Cutting.{cut_ranges, cuts_step, cuts_fail, cuts_ready}
use Rattle.mega_entry.proofs.cuts.take_cuts_of.Goals as goal

pub overflow_add-low : goal.overflow_add-low
overflow_add-low c =
    let h = rw (c.least_of-least_writes.ensures.exact, c.least_of-least_sends.ensures.exact) at c.in-Ok.ensures in
    let ranges = cut_ranges (c.args.count - 1 - c.loop-done.done) c.loop-done.low c.loop-done.writes_left c.loop-done.sends_left c.loop-done.cursor c.in-Ok.cut c.take_cut.new.cursor (omega (arith, c.loop-done.invariant.room)) (omega arith) (omega arith) h in
    omega (arith, ranges.0.1)

pub overflow_sub-writes_left : goal.overflow_sub-writes_left
overflow_sub-writes_left c =
    let h = rw (c.least_of-least_writes.ensures.exact, c.least_of-least_sends.ensures.exact) at c.in-Ok.ensures in
    (cut_ranges (c.args.count - 1 - c.loop-done.done) c.loop-done.low c.loop-done.writes_left c.loop-done.sends_left c.loop-done.cursor c.in-Ok.cut c.take_cut.new.cursor (omega (arith, c.loop-done.invariant.room)) (omega arith) (omega arith) h).1.1

pub overflow_sub-sends_left : goal.overflow_sub-sends_left
overflow_sub-sends_left c =
    let h = rw (c.least_of-least_writes.ensures.exact, c.least_of-least_sends.ensures.exact) at c.in-Ok.ensures in
    (cut_ranges (c.args.count - 1 - c.loop-done.done) c.loop-done.low c.loop-done.writes_left c.loop-done.sends_left c.loop-done.cursor c.in-Ok.cut c.take_cut.new.cursor (omega (arith, c.loop-done.invariant.room)) (omega arith) (omega arith) h).2.1

pub returns-in-Err : goal.returns-in-Err
returns-in-Err c =
    let h = rw (c.least_of-least_writes.ensures.exact, c.least_of-least_sends.ensures.exact) at c.in-Err.ensures in
    cuts_fail (c.args.count - c.loop-done.done) (c.args.count - 1 - c.loop-done.done) c.loop-done.low c.loop-done.writes_left c.loop-done.sends_left c.loop-done.cuts c.loop-done.cursor c.take_cut.new.cursor c.take_cut.new.cursor c.in-Err.fault _
    (omega arith) h c.loop-done.invariant

pub loop-done-preserved : goal.loop-done-preserved
loop-done-preserved c =
    let h = rw (c.least_of-least_writes.ensures.exact, c.least_of-least_sends.ensures.exact) at c.in-Ok.ensures in
    let e : c.args.count - (c.loop-done.done + 1) ≡ c.args.count - 1 - c.loop-done.done = omega arith in
    rw (e, c.in_ok-push-in-Ok.ensures.ok) (cuts_step (c.args.count - c.loop-done.done) (c.args.count - 1 - c.loop-done.done) c.loop-done.low c.loop-done.writes_left c.loop-done.sends_left c.loop-done.cuts c.loop-done.cursor c.in-Ok.cut c.take_cut.new.cursor _
    (omega arith) (omega arith) (omega arith) h c.loop-done.invariant)

pub returns : goal.returns
returns c = cuts_ready (c.args.count - c.loop-done.done) c.loop-done.low c.loop-done.writes_left c.loop-done.sends_left c.loop-done.cuts c.loop-done.cursor _ (omega arith) c.loop-done.invariant
