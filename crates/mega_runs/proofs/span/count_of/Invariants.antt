use Rattle.std.proofs.Common.{◌≡◌, ◌+◌, ◌-◌, ◌^◌, length}
use Rattle.std.specs.Prelude.{min}
use Rattle.mega_runs.specs.Ranges.{count_of_blocks}
use Rattle.mega_runs.proofs.span.count_of.Given as goal

abbrev pub invariant-loop-block : goal.invariant-loop-block
invariant-loop-block l = min (l.count + count_of_blocks l.rest) (2 ^ 32 - 1) ≡ min (count_of_blocks l.blocks) (2 ^ 32 - 1)

abbrev pub decreases-loop-block : goal.decreases-loop-block
decreases-loop-block l = length l.rest
