use Rattle.std.proofs.Common.{◌≡◌, ◌-◌, ◌+◌, ◌<◌, suc, IsErr, sym, subst, arith}
use Rattle.mega_base.specs.Reading.{Place}
use Rattle.mega_base.specs.Utf8.{chars_of}
use Rattle.mega_base.proofs.Texts.{StopsAhead, ahead_begins, ahead_step, ahead_stop, char_fits, chars_done, chars_out}
use Rattle.mega_base.proofs.cursor.Cursor.text_fault.Goals as goal

pub loop-used-init : goal.loop-used-init
loop-used-init c =
    let P : Place → Type 0 = λ z. StopsAhead c.args.count c.args.count z c.args.count c.args.self.now in
    let none : c.args.count - 0 ≡ c.args.count = omega arith in
    rw none (subst P (sym c.self.view_is) (ahead_begins c.args.count c.args.self.now c.requires))

pub returns-then-room-eq0 : goal.returns-then-room-eq0
returns-then-room-eq0 c = absurd (chars_done (c.args.count - c.loop-used._used) c.loop-used.ahead (rw (← c.if-room-eq0.true) c.loop-used.invariant.refused))

pub overflow_sub-room-in-Ok : goal.overflow_sub-room-in-Ok
overflow_sub-room-in-Ok c = rw c.char_len-room.ensures (char_fits c.loop-used.room c.loop-used.ahead c.in-Ok.character c.take_char.new.self (omega (arith, c.if-room-eq0.false)) c.in-Ok.ensures)

pub returns-in-Err : goal.returns-in-Err
returns-in-Err c =
    ahead_stop (c.args.count - (c.loop-used._used + 1)) (c.args.count - c.loop-used._used) c.loop-used.room c.loop-used.ahead c.in-Err.bad.at c.args.count c.args.self.now
    (omega arith) (omega (arith, c.if-room-eq0.false)) c.in-Err.ensures c.loop-used.invariant

pub loop-used-preserved : goal.loop-used-preserved
loop-used-preserved c =
    rw c.char_len-room.ensures (ahead_step (c.args.count - (c.loop-used._used + 1)) (c.args.count - c.loop-used._used) c.loop-used.room c.loop-used.ahead c.in-Ok.character c.take_char.new.self c.args.count c.args.self.now
    (omega arith) (omega (arith, c.if-room-eq0.false)) c.in-Ok.ensures c.loop-used.invariant)

pub returns : goal.returns
returns c =
    let none : c.args.count - c.loop-used._used ≡ 0 = omega arith in
    absurd (chars_out c.loop-used.room c.loop-used.ahead (rw none at c.loop-used.invariant.refused))
