use Rattle.std.proofs.Common.{◌≡◌, ◌+◌, ◌*◌, ◌<◌, ◌^◌, length, sum}
use Rattle.mega_tally.proofs.longest.prefix_sum.Given as goal

abbrev pub invariant-loop-prefix : goal.invariant-loop-prefix
invariant-loop-prefix l = (l.total + sum l.prefix-iterator ≡ sum l.initial.prefix-iterator) × (l.total + 2 ^ 64 * length l.prefix-iterator < 2 ^ 128)
