use Rattle.std.proofs.Common.{◌≡◌, ◌++◌, drop}
use Rattle.mega_rules.specs.Queues.{posted}
use Rattle.mega_queues.proofs.posted.post_all.Given as goal

abbrev pub invariant-loop-send : goal.invariant-loop-send
invariant-loop-send l = record {
  place : l.place ≡ l.send-index;
  items : l.outbox.items ++ posted l.group l.position.0 l.send-index (drop l.send-index l.sends) ≡ l.initial.outbox.items ++ posted l.group l.position.0 0 l.sends;
}
