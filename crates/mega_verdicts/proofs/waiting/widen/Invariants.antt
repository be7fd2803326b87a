use Rattle.std.proofs.Common.{◌≡◌, ℕ, length}
use Rattle.mega_verdicts.specs.Waiting.{waits_for}
use Rattle.mega_verdicts.proofs.waiting.widen.Given as goal

abbrev pub invariant-loop-receiver : goal.invariant-loop-receiver
invariant-loop-receiver l =
    record {
      count : length l.waiting.items ≡ l._receiver;
      same : (other n : ℕ) → waits_for l.waiting.items other n ≡ waits_for l.initial.waiting.items other n;
    }
