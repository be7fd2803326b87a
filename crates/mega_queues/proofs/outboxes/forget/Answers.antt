use Rattle.std.proofs.Common.{◌∙◌, ap, sym}
use Rattle.mega_queues.specs.Boxes.{awaits, is_first_shed}
use Rattle.mega_queues.proofs.Placing.{all_shed, first_shed}
use Rattle.mega_queues.proofs.outboxes.forget.Goals as goal

pub returns-then-is_first_entered : goal.returns-then-is_first_entered
returns-then-is_first_entered c =
    let test = awaits c.args.boxes.now in
    first_shed test c.args.outbox.now.items c.remove.new.self.items (ap (is_first_shed test) (sym c.as_slice.ensures.value) ∙ sym c.is_first_entered.ensures ∙ c.if-is_first_entered.true) c.remove.ensures.items

pub returns : goal.returns
returns c = all_shed (awaits c.args.boxes.now) c.args.outbox.now.items c.forget_all.new.outbox.items c.forget_all.ensures
