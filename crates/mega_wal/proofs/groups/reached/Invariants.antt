use Rattle.std.proofs.Common.{◌≡◌, ◌+◌, ◌-◌, ◌<◌, ◌^◌}
use Rattle.mega_base.specs.Climbing.{climb}
use Rattle.mega_wal.specs.Kept.{is_decided_with}
use Rattle.mega_wal.proofs.groups.reached.Given as goal

abbrev pub invariant-loop-step : goal.invariant-loop-step
invariant-loop-step l = (climb (is_decided_with l.groups l.group l.at) (l.steps - l._step) l.prefix ≡ climb (is_decided_with l.groups l.group l.at) l.steps l.from)
    × (l.prefix + (l.steps - l._step) < 2 ^ 64)
