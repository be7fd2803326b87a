use Rattle.std.proofs.Common.{ap, sym}
use Rattle.std.specs.Prelude.{is_some}
use Rattle.mega_queues.specs.Boxes.{awaits}
use Rattle.mega_queues.proofs.Placing.{shed_there}
use Rattle.mega_queues.proofs.outboxes.forget_of.Goals as goal

pub returns-in-Some : goal.returns-in-Some
returns-in-Some c =
    let there = c.in-Some.ensures.value in
    shed_there (awaits c.args.boxes.now) c.args.outboxes.now (c.get_mut.follows.lender c.forget.new.outbox) c.args.group.now c.in-Some.own.now c.forget.new.outbox (sym there)
    ((c.get_mut.follows.holds c.forget.new.outbox).3 (ap is_some (sym there))).0
    c.forget.ensures
