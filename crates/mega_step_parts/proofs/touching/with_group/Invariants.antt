use Rattle.std.proofs.Common.{◌≡◌, ◌++◌}
use Rattle.std.specs.Vec.Iter.{into_iter_items}
use Rattle.mega_rules.specs.Logs.{with_group}
use Rattle.mega_step_parts.specs.Touching.{waits}
use Rattle.mega_step_parts.proofs.touching.with_group.Given as goal

abbrev pub invariant-loop-other : goal.invariant-loop-other
invariant-loop-other l = l.made ++ waits l.waiting (into_iter_items l.other-iterator) ≡ with_group l.fn.group (into_iter_items l.initial.other-iterator)
