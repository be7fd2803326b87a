use Rattle.std.proofs.Common.{subst}
use Rattle.mega_disk.specs.declared.changes.Held.{Held}
use Rattle.mega_disk.specs.Images.{Only}
use Rattle.mega_disk.specs.Changes.{LeftBy}
use Rattle.mega_disk.proofs.mem_disk.MemDiskDisk.sync.Goals as goal

pub returns-clause-durable : goal.returns-clause-durable
returns-clause-durable c told = subst (λ (held : Held). Only held.content.items (LeftBy c.sync_noted.new.held)) c.in_ok-enter.ensures.held c.sync_noted.ensures.durable
