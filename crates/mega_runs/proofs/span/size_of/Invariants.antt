use Rattle.std.proofs.Common.{◌≡◌, ◌+◌, ◌-◌, ◌^◌, length}
use Rattle.std.specs.Prelude.{min}
use Rattle.mega_runs.specs.Ranges.{size_of_blocks}
use Rattle.mega_runs.proofs.span.size_of.Given as goal

abbrev pub invariant-loop-block : goal.invariant-loop-block
invariant-loop-block l = min (l.size + size_of_blocks l.rest) (2 ^ 64 - 1) ≡ min (size_of_blocks l.blocks) (2 ^ 64 - 1)

abbrev pub decreases-loop-block : goal.decreases-loop-block
decreases-loop-block l = length l.rest
