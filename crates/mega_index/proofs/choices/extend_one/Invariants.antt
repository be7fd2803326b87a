use Rattle.std.proofs.Common.{◌≡◌, ◌++◌, take}
use Rattle.mega_index.specs.Fits.{with_each}
use Rattle.mega_index.proofs.choices.extend_one.Given as goal

abbrev pub invariant-loop-value : goal.invariant-loop-value
invariant-loop-value l = l.out.items ≡ l.initial.out.items ++ with_each l.choice (take l.value-index l.values)
