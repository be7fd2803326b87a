use Rattle.mega_disk.specs.MemRecords.{Keeps}
use Rattle.mega_disk.proofs.Moments.{passes}
use Rattle.mega_disk.proofs.mem_records.add_if.Goals as goal

pub returns-clause-time : goal.returns-clause-time
returns-clause-time c = passes Keeps c.args.list.now c.args.list.now c.args.past.now.states _ c.and.ensures
