use Rattle.mega_disk.specs.Changes.{LeftBy}
use Rattle.mega_disk.proofs.Moments.{passes}
use Rattle.mega_disk.proofs.mem_disk.sync_noted.Goals as goal

pub returns-clause-time : goal.returns-clause-time
returns-clause-time c = passes LeftBy c.args.held.now (record { content = c.args.held.now.content; changes = c.clear.new.self }) c.args.past.now.states _ c.and.ensures
