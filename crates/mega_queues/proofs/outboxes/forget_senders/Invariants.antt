use Rattle.mega_queues.specs.Boxes.{awaits, Sheds}
use Rattle.mega_queues.proofs.outboxes.forget_senders.Given as goal

abbrev pub invariant-loop-enter : goal.invariant-loop-enter
invariant-loop-enter l = Sheds (awaits l.boxes) l.initial.outboxes l.outboxes
