use Rattle.std.proofs.Common.{◌∙◌}
use Rattle.mega_queues.proofs.Picking.{picks_to_handle}
use Rattle.mega_queues.proofs.queues.Queues.next_to_handle.Goals as goal

pub returns : goal.returns
returns c = λ logs kept. c.next_to_handle.ensures ∙ picks_to_handle logs c.args.self.now c.args.groups.now kept
