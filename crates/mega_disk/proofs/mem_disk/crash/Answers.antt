use Rattle.mega_disk.specs.Changes.{LeftBy}
use Rattle.mega_disk.proofs.Left.{burnt_within}
use Rattle.mega_disk.proofs.Moments.{passes}
use Rattle.mega_disk.proofs.mem_disk.crash.Goals as goal

pub returns-clause-within : goal.returns-clause-within
returns-clause-within c = burnt_within c.args.image c.args.held.now.changes.items _ c.args.held.now.content.items _ c.burn.ensures.changes c.burn.ensures.content

pub returns-clause-time : goal.returns-clause-time
returns-clause-time c = passes LeftBy c.args.held.now c.burn.new.held c.args.past.now.states _ c.and.ensures
