use Rattle.mega_disk.specs.Changes.{LeftBy}
use Rattle.mega_disk.proofs.Left.{write_crash}
use Rattle.mega_disk.proofs.Moments.{passes}
use Rattle.mega_disk.proofs.mem_disk.write_noted.Goals as goal

pub returns-clause-crash : goal.returns-clause-crash
returns-clause-crash c =
    let e = c.write_over.ensures in
    write_crash c.write_over.result c.args.at c.args.bytes.now c.args.held.now.changes.items _ c.args.held.now.content.items _ c.requires e.written e.changed e.content_left e.changes_left

pub returns-clause-time : goal.returns-clause-time
returns-clause-time c = passes LeftBy c.args.held.now c.write_over.new.held c.args.past.now.states _ c.and.ensures
