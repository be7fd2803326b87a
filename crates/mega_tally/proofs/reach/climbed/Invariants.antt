use Rattle.std.proofs.Common.{◌≡◌, ◌+◌, ◌-◌, ◌<◌, ◌^◌}
use Rattle.std.specs.Ordering.{nat_cmp}
use Rattle.std.specs.BTreeSet.{contains}
use Rattle.mega_base.specs.Climbing.{climb}
use Rattle.mega_tally.proofs.reach.climbed.Given as goal

abbrev pub invariant-loop-step : goal.invariant-loop-step
invariant-loop-step l = (climb (contains nat_cmp l.positions) (l.steps - l._step) l.prefix ≡ climb (contains nat_cmp l.positions) l.steps l.from) × (l.prefix + (l.steps - l._step) < 2 ^ 64)
