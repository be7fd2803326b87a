use Rattle.std.proofs.Common.{◌≢◌, take, All}
use Rattle.mega_io.proofs.lines.unbroken_length.Given as goal

abbrev pub invariant-loop-index : goal.invariant-loop-index
invariant-loop-index l = All (λ byte. byte ≢ 10) (take l.index l.bytes)
