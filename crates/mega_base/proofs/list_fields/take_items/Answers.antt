use Rattle.std.proofs.Common.{◌≡◌, ◌-◌, ◌+◌, suc, arith}
use Rattle.mega_base.proofs.Loops.{step, fails, ready}
use Rattle.mega_base.proofs.list_fields.take_items.Goals as goal

pub returns-in-Err : goal.returns-in-Err
returns-in-Err g c =
    fails g.T.Field.reads c.loop-counter.items (c.args.count - c.loop-counter._counter) (c.args.count - (c.loop-counter._counter + 1)) c.loop-counter.cursor c.take.new.cursor c.take.new.cursor c.in-Err.fault _
    (omega arith) c.in-Err.ensures c.loop-counter.invariant

pub loop-counter-preserved : goal.loop-counter-preserved
loop-counter-preserved g c =
    rw c.in_ok-push-in-Ok.ensures.ok (step g.T.Field.reads c.loop-counter.items (c.args.count - c.loop-counter._counter) (c.args.count - (c.loop-counter._counter + 1)) c.loop-counter.cursor c.in-Ok.item c.take.new.cursor _
    (omega arith) c.in-Ok.ensures c.loop-counter.invariant)

pub returns : goal.returns
returns g c =
    ready g.T.Field.reads c.loop-counter.items (c.args.count - c.loop-counter._counter) c.loop-counter.cursor _ (omega arith) c.loop-counter.invariant
