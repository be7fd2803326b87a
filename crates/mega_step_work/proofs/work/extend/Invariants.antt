use Rattle.std.proofs.Common.{◌≡◌, ◌++◌}
use Rattle.mega_step_work.proofs.work.extend.Given as goal

abbrev pub invariant-loop-message : goal.invariant-loop-message
invariant-loop-message l = l.sends ≡ l.initial.sends ++ l.yielded
