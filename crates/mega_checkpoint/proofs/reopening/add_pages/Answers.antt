use Rattle.std.proofs.Common.{◌≡◌, ℕ, ◌+◌, ◌≤◌, List, length, sym, ◌∙◌, ap, subst, arith}
use Rattle.mega_disk.proofs.Leaves.{started, weaker_leaves, goes_on}
use Rattle.mega_areas.specs.declared.area.Areas.{Areas}
use Rattle.mega_areas.specs.Pages.{length_of_pages}
use Rattle.mega_checkpoint.specs.Format.{list_of}
use Rattle.mega_checkpoint.specs.Held.{HoldsAreas}
use Rattle.mega_areas.specs.Places.{AllKeep, Keeps}
use Rattle.mega_checkpoint.proofs.Adding.{chain_stays, list_stays, put_keeps, stays}
use Rattle.mega_areas.proofs.Kept.{keeps_same}
use Rattle.mega_checkpoint.proofs.reopening.add_pages.Goals as goal

-- with a further page of each
abbrev longer : Areas → Areas
longer areas = record { active = areas.active; generation = areas.generation; pages = areas.pages + 1; other_open = areas.other_open }

pub returns-in_err-zeros-clause-any_moment : goal.returns-in_err-zeros-clause-any_moment
returns-in_err-zeros-clause-any_moment g c told =
    let disk = c.args.disk.now in
    let h = c.requires.held told in
    started g.D.Disk.moment g.D.Disk.left_since disk _ (λ image since. ap list_of (h.durable image (g.met.D.Disk.only_now disk image since)))

pub returns-in_err-add_page-clause-any_moment : goal.returns-in_err-add_page-clause-any_moment
returns-in_err-add_page-clause-any_moment g c told =
    let disk = c.args.disk.now in
    let file = g.D.Disk.seen disk in
    let area = c.args.areas.active in
    let from = c.args.end + 10 in
    let h = c.requires.held told in
    let few : length file ≤ length_of_pages c.args.areas.pages = let e = h.size in omega (arith, e) in
    let begun : AllKeep area from file (g.D.Disk.may_leave disk) = λ image left. subst (Keeps area from file) (sym (h.durable image left)) (keeps_same area from file) in
    weaker_leaves g.D.Disk.moment g.D.Disk.left_since disk c.add_page.new.disk (Keeps area from file) (λ image. list_of image ≡ list_of file) (c.add_page.ensures.any_moment area from file few begun)
    (λ image kept. list_stays area from file image kept (omega arith) h.form h.counting c.args.end h.at_rest (omega arith))

pub returns-in_err-sync-clause-any_moment : goal.returns-in_err-sync-clause-any_moment
returns-in_err-sync-clause-any_moment g c told =
    let disk = c.args.disk.now in
    let file = g.D.Disk.seen disk in
    let area = c.args.areas.active in
    let from = c.args.end + 10 in
    let h = c.requires.held told in
    let few : length file ≤ length_of_pages c.args.areas.pages = let e = h.size in omega (arith, e) in
    let begun : AllKeep area from file (g.D.Disk.may_leave disk) = λ image left. subst (Keeps area from file) (sym (h.durable image left)) (keeps_same area from file) in
    let run = goes_on g.D.Disk.moment g.D.Disk.left_since disk c.add_page.new.disk c.sync.new.self (Keeps area from file) _ (c.add_page.ensures.any_moment area from file few begun) c.sync.ensures.time
    (λ image now. c.add_page.ensures.kept area from file few begun image (c.sync.ensures.crash image now)) in
    weaker_leaves g.D.Disk.moment g.D.Disk.left_since disk c.sync.new.self (Keeps area from file) (λ image. list_of image ≡ list_of file) run
    (λ image kept. list_stays area from file image kept (omega arith) h.form h.counting c.args.end h.at_rest (omega arith))

pub returns-clause-any_moment : goal.returns-clause-any_moment
returns-clause-any_moment g c told =
    let disk = c.args.disk.now in
    let file = g.D.Disk.seen disk in
    let area = c.args.areas.active in
    let from = c.args.end + 10 in
    let h = c.requires.held told in
    let few : length file ≤ length_of_pages c.args.areas.pages = let e = h.size in omega (arith, e) in
    let begun : AllKeep area from file (g.D.Disk.may_leave disk) = λ image left. subst (Keeps area from file) (sym (h.durable image left)) (keeps_same area from file) in
    let run = goes_on g.D.Disk.moment g.D.Disk.left_since disk c.add_page.new.disk c.sync.new.self (Keeps area from file) _ (c.add_page.ensures.any_moment area from file few begun) c.sync.ensures.time
    (λ image now. c.add_page.ensures.kept area from file few begun image (c.sync.ensures.crash image now)) in
    weaker_leaves g.D.Disk.moment g.D.Disk.left_since disk c.sync.new.self (Keeps area from file) (λ image. list_of image ≡ list_of file) run
    (λ image kept. list_stays area from file image kept (omega arith) h.form h.counting c.args.end h.at_rest (omega arith))

pub returns-clause-same : goal.returns-clause-same
returns-clause-same g c told =
    let file = g.D.Disk.seen c.args.disk.now in
    let mid = g.D.Disk.seen c.add_page.new.disk in
    let area = c.args.areas.active in
    let from = c.args.end + 10 in
    let h = c.requires.held told in
    let kept = put_keeps area from from _ file mid (omega arith) (c.in_ok-add_page.ensures.put area from told) in
    ap list_of c.in_ok-sync.ensures.seen ∙ list_stays area from file mid kept (omega arith) h.form h.counting c.args.end h.at_rest (omega arith)

pub returns-clause-held : goal.returns-clause-held
returns-clause-held g c told =
    let file = g.D.Disk.seen c.args.disk.now in
    let mid = g.D.Disk.seen c.add_page.new.disk in
    let area = c.args.areas.active in
    let from = c.args.end + 10 in
    let h = c.requires.held told in
    let kept = put_keeps area from from _ file mid (omega arith) (c.in_ok-add_page.ensures.put area from told) in
    let s = stays area from file mid kept (omega arith) h.form h.counting in
    let left = g.D.Disk.may_leave c.sync.new.self in
    subst (λ (f : List ℕ). HoldsAreas f left (longer c.args.areas) c.args.end) (sym c.in_ok-sync.ensures.seen)
    (record {
      size = c.in_ok-add_page.ensures.size told;
      form = s.form;
      counting = s.counting;
      number = s.number ∙ h.number;
      other = s.other ∙ h.other;
      at_rest = (chain_stays area from file mid kept (omega arith) h.form h.counting c.args.end h.at_rest (omega arith)).0;
      durable = c.in_ok-sync.ensures.durable told;
    })
