use Rattle.std.proofs.Common.{◌≡◌, drop, fold}
use Rattle.mega_step_parts.specs.Touching.{with_reach}
use Rattle.mega_step_parts.proofs.touching.with_heard_reaches.Given as goal

abbrev pub invariant-loop-one : goal.invariant-loop-one
invariant-loop-one l = fold with_reach l.made (drop l.one-index l.heard) ≡ fold with_reach l.fn.groups l.heard
