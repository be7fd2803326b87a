use Rattle.mega_pumps.proofs.Caught.{nothing_noted}
use Rattle.mega_pumps.proofs.digest.Digest.new.Goals as goal

pub returns : goal.returns
returns c = λ log stored. nothing_noted (record { queues = c.new-queues.result; through = c.new-through.result }) log stored c.new-through.ensures.empty c.new-queues.ensures
