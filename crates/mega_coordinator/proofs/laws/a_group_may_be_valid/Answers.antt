use Rattle.std.proofs.Common.{ap, cond, true, false, ◌&&◌}
use Rattle.mega_coordinator.proofs.Validity.{group_self}
use Rattle.mega_coordinator.proofs.laws.a_group_may_be_valid.Goals as goal

pub returns : goal.returns
returns c = λ group. ap (λ same. cond (same && true) true false) (group_self group)
