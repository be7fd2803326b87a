use Rattle.mega_disk.specs.Changes.{LeftBy}
use Rattle.mega_disk.proofs.Left.{cut_crash}
use Rattle.mega_disk.proofs.Moments.{passes}
use Rattle.mega_disk.proofs.mem_disk.cut_noted.Goals as goal

pub returns-clause-crash : goal.returns-clause-crash
returns-clause-crash c =
    let e = c.cut_to.ensures in
    cut_crash c.cut_to.result c.args.size c.args.held.now.changes.items _ c.args.held.now.content.items _ c.requires e.cut e.changed e.content_left e.changes_left

pub returns-clause-time : goal.returns-clause-time
returns-clause-time c = passes LeftBy c.args.held.now c.cut_to.new.held c.args.past.now.states _ c.and.ensures
