use Rattle.std.proofs.Common.{subst}
use Rattle.mega_disk.specs.declared.changes.Held.{Held}
use Rattle.mega_disk.specs.Images.{Cut, Follows}
use Rattle.mega_disk.specs.Changes.{LeftBy}
use Rattle.mega_disk.proofs.Left.{cut_from_within}
use Rattle.mega_disk.proofs.mem_disk.MemDiskDisk.cut.Goals as goal

pub returns-in_err-enter-clause-crash : goal.returns-in_err-enter-clause-crash
returns-in_err-enter-clause-crash c = cut_from_within c.args.size _ _ c.enter.ensures.within

pub returns-in_err-cut_noted-clause-crash : goal.returns-in_err-cut_noted-clause-crash
returns-in_err-cut_noted-clause-crash c =
    subst (λ (held : Held). Follows (Cut c.args.size) (LeftBy held) (LeftBy c.cut_noted.new.held)) c.in_ok-enter.ensures.held c.cut_noted.ensures.crash

pub returns-clause-crash : goal.returns-clause-crash
returns-clause-crash c =
    subst (λ (held : Held). Follows (Cut c.args.size) (LeftBy held) (LeftBy c.cut_noted.new.held)) c.in_ok-enter.ensures.held c.cut_noted.ensures.crash
