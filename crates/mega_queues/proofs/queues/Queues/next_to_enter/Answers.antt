use Rattle.std.proofs.Common.{◌∙◌}
use Rattle.mega_queues.proofs.Picking.{picks_to_enter}
use Rattle.mega_queues.proofs.queues.Queues.next_to_enter.Goals as goal

pub returns : goal.returns
returns c = λ logs kept all. c.next_to_enter.ensures ∙ picks_to_enter logs c.args.self.now c.args.op c.args.groups.now kept all
