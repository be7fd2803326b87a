use Rattle.std.proofs.Common.{◌≡◌, ap, refl}
use Rattle.mega_disk.specs.MemDisk.{fuse_of}
use Rattle.mega_disk.proofs.fuse.spend_append.Goals as goal

pub returns-then-set-eq3-clause-burns : goal.returns-then-set-eq3-clause-burns
returns-then-set-eq3-clause-burns c = record { was_set = (c.in-Some.set.calls, ap fuse_of c.in-Some.is); gone = refl }

pub returns-else-set-eq3-clause-burns : goal.returns-else-set-eq3-clause-burns
returns-else-set-eq3-clause-burns c = record { was_set = (c.in-Some.set.calls, ap fuse_of c.in-Some.is); gone = refl }
