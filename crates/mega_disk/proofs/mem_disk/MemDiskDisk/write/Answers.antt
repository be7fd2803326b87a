use Rattle.std.proofs.Common.{length, subst}
use Rattle.mega_disk.specs.declared.changes.Held.{Held}
use Rattle.mega_disk.specs.Images.{Torn, Follows}
use Rattle.mega_disk.specs.Changes.{LeftBy}
use Rattle.mega_disk.proofs.Left.{torn_from_within}
use Rattle.mega_disk.proofs.mem_disk.MemDiskDisk.write.Goals as goal

pub returns-in_err-enter-clause-crash : goal.returns-in_err-enter-clause-crash
returns-in_err-enter-clause-crash c = torn_from_within c.args.at (length c.args.bytes.now) _ _ c.enter.ensures.within

pub returns-in_err-write_noted-clause-crash : goal.returns-in_err-write_noted-clause-crash
returns-in_err-write_noted-clause-crash c =
    subst (λ (held : Held). Follows (Torn c.args.at (length c.args.bytes.now)) (LeftBy held) (LeftBy c.write_noted.new.held)) c.in_ok-enter.ensures.held c.write_noted.ensures.crash

pub returns-clause-crash : goal.returns-clause-crash
returns-clause-crash c =
    subst (λ (held : Held). Follows (Torn c.args.at (length c.args.bytes.now)) (LeftBy held) (LeftBy c.write_noted.new.held)) c.in_ok-enter.ensures.held c.write_noted.ensures.crash
