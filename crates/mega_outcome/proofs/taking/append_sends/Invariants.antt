use Rattle.std.proofs.Common.{◌≡◌, ◌++◌}
use Rattle.mega_outcome.proofs.taking.append_sends.Given as goal

abbrev pub invariant-loop-send : goal.invariant-loop-send
invariant-loop-send l = l.sends ≡ l.initial.sends ++ l.yielded
