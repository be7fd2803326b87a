use Rattle.std.proofs.Common.{◌<◌, ◌≤◌, length, subst, arith}
use Rattle.mega_link.specs.Memory.{Course}
use Rattle.mega_link.proofs.Course.{next_reading}
use Rattle.mega_link.proofs.mem_clock.MemClockClock.now.Goals as goal

pub returns-clause-never_back : goal.returns-clause-never_back
returns-clause-never_back c =
    let more : c.self.inside.index < length c.self.inside.readings.items = omega arith in
    let least = next_reading _ _ _ _ _ c.self.invariant more c.index-reading.ensures in
    subst (λ (course : Course). course.last ≤ c.index-reading.result.now) c.self.view_is least
