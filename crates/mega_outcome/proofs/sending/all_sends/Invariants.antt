use Rattle.std.proofs.Common.{◌≡◌, ◌+◌, drop}
use Rattle.mega_outcome.specs.Outcome.{all_sends}
use Rattle.mega_outcome.proofs.sending.all_sends.Given as goal

abbrev pub invariant-loop-send : goal.invariant-loop-send
invariant-loop-send l = record {
  counted : l.item ≡ l.first + l.send-index;
  left : all_sends l.schema l.first l.sends ≡ all_sends l.schema l.item (drop l.send-index l.sends);
}
