use Rattle.std.proofs.Common.{◌≡◌, drop, fold}
use Rattle.mega_step_parts.specs.Listening.{unheard}
use Rattle.mega_step_parts.specs.Touching.{with_reach}
use Rattle.mega_step_parts.proofs.touching.with_unmoved_reaches.Given as goal

abbrev pub invariant-loop-operation : goal.invariant-loop-operation
invariant-loop-operation l = fold (λ some o. with_reach some (unheard o)) l.made (drop l.operation-index l.operations) ≡ fold (λ some o. with_reach some (unheard o)) l.fn.groups l.operations
