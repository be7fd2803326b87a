use Rattle.std.proofs.Common.{ℕ, List, length, sym, subst}
use Rattle.mega_disk.specs.Images.{Torn}
use Rattle.mega_disk.proofs.Leaves.{started, goes_on}
use Rattle.mega_disk.proofs.Steps.{torn_same}
use Rattle.mega_journal.proofs.device.write_through.Goals as goal

pub returns-clause-any_moment : goal.returns-clause-any_moment
returns-clause-any_moment g c told only =
    let disk = c.args.disk.now in
    let file = g.D.Disk.seen disk in
    let n = length c.args.bytes.now in
    let P : List ℕ → Type 0 = Torn c.args.at n file in
    let begun = started g.D.Disk.moment g.D.Disk.left_since disk P (λ image left. subst P (sym (only image (g.met.D.Disk.only_now disk image left))) (torn_same c.args.at n file)) in
    let torn : (image : List ℕ) → g.D.Disk.may_leave c.write.new.self image → P image = λ image now.
    let from = c.write.ensures.crash image now in
    subst (λ (old : List ℕ). Torn c.args.at n old image) (only from.0 from.1) from.2 in
    let written = goes_on g.D.Disk.moment g.D.Disk.left_since disk disk c.write.new.self P _ begun c.write.ensures.time torn in
    goes_on g.D.Disk.moment g.D.Disk.left_since disk c.write.new.self c.sync.new.self P _ written c.sync.ensures.time (λ image now. torn image (c.sync.ensures.crash image now))
