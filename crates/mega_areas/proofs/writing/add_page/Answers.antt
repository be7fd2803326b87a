use Rattle.std.proofs.Common.{ℕ, List, [], length, ◌≤◌, sym, ◌∙◌, subst}
use Rattle.std.proofs.lemmas.Result.{on_ok_weaker}
use Rattle.mega_disk.proofs.Leaves.{started, goes_on}
use Rattle.mega_areas.specs.Places.{Keeps, Puts}
use Rattle.mega_areas.proofs.Kept.{put_behind, behind_kept}
use Rattle.mega_areas.proofs.writing.add_page.Goals as goal

pub returns-clause-put : goal.returns-clause-put
returns-clause-put g c area place told =
    let old = g.D.Disk.seen c.args.disk.now in
    on_ok_weaker c.write.result
    (λ written. subst (Puts area place [] old) (sym written) (put_behind area place _ c.args.zeros.now old (c.length_of_pages.ensures ∙ sym (c.requires.size told)))) (c.write.ensures.written told)

pub returns-clause-kept : goal.returns-clause-kept
returns-clause-kept g c area from file few all image left =
    let step = c.write.ensures.crash image left in
    behind_kept area from _ (length c.args.zeros.now) file step.0 image (subst (λ (n : ℕ). length file ≤ n) (sym c.length_of_pages.ensures) few) (all step.0 step.1) step.2

pub returns-clause-any_moment : goal.returns-clause-any_moment
returns-clause-any_moment g c area from file few all =
    let disk = c.args.disk.now in
    let P : List ℕ → Type 0 = Keeps area from file in
    let begun = started g.D.Disk.moment g.D.Disk.left_since disk P (λ image since. all image (g.met.D.Disk.only_now disk image since)) in
    goes_on g.D.Disk.moment g.D.Disk.left_since disk disk c.write.new.self P _ begun c.write.ensures.time (returns-clause-kept g c area from file few all)
