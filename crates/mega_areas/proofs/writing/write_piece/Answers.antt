use Rattle.std.proofs.Common.{ℕ, List, length, sym, ◌∙◌, ap, subst}
use Rattle.std.proofs.lemmas.Result.{on_ok_weaker}
use Rattle.mega_disk.specs.Images.{overwritten, Torn}
use Rattle.mega_disk.proofs.Leaves.{started, goes_on}
use Rattle.mega_areas.specs.Places.{Keeps, Puts}
use Rattle.mega_areas.proofs.Kept.{piece_kept, piece_put}
use Rattle.mega_areas.proofs.writing.write_piece.Goals as goal

pub returns-clause-put : goal.returns-clause-put
returns-clause-put g c told =
    let old = g.D.Disk.seen c.args.disk.now in
    on_ok_weaker c.write.result
    (λ written. subst (Puts c.args.area c.args.place c.args.bytes.now old) (sym (written ∙ ap (λ (at : ℕ). overwritten at c.args.bytes.now old) c.offset.ensures))
    (piece_put c.args.area c.args.place c.args.bytes.now old c.requires.page (c.requires.inside told)).0) (c.write.ensures.written told)

pub returns-clause-kept : goal.returns-clause-kept
returns-clause-kept g c from file le all image left =
    let n = length c.args.bytes.now in
    let step = c.write.ensures.crash image left in
    piece_kept c.args.area from c.args.place n file step.0 image c.requires.page le (all step.0 step.1) (subst (λ (at : ℕ). Torn at n step.0 image) c.offset.ensures step.2)

pub returns-clause-any_moment : goal.returns-clause-any_moment
returns-clause-any_moment g c from file le all =
    let disk = c.args.disk.now in
    let P : List ℕ → Type 0 = Keeps c.args.area from file in
    let begun = started g.D.Disk.moment g.D.Disk.left_since disk P (λ image since. all image (g.met.D.Disk.only_now disk image since)) in
    goes_on g.D.Disk.moment g.D.Disk.left_since disk disk c.write.new.self P _ begun c.write.ensures.time (returns-clause-kept g c from file le all)
