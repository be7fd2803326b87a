use Rattle.std.proofs.Common.{ℕ, ◌≤◌, List, length, sym, subst, arith}
use Rattle.std.proofs.lemmas.Result.{on_ok_weaker}
use Rattle.mega_disk.proofs.Leaves.{then_leaves, goes_on}
use Rattle.mega_areas.specs.Pages.{length_of_pages}
use Rattle.mega_areas.specs.Places.{Keeps, Puts, AllKeep}
use Rattle.mega_areas.proofs.Kept.{put_grown, keeps_same}
use Rattle.mega_areas.proofs.writing.stage.Goals as goal

pub returns-clause-put : goal.returns-clause-put
returns-clause-put g c told =
    let old = g.D.Disk.seen c.args.disk.now in
    on_ok_weaker c.sync.result
    (λ same. subst (Puts c.args.area c.args.place c.args.bytes.now old) (sym same)
    (put_grown c.args.area c.args.place c.args.bytes.now old (g.D.Disk.seen c.grow.new.disk) (g.D.Disk.seen c.write_area.new.disk) (c.in_ok-grow.ensures.put c.args.area c.args.place told) (c.in_ok-write_area.ensures.put told)))
    c.sync.ensures.seen

pub returns-in_err-grow-clause-any_moment : goal.returns-in_err-grow-clause-any_moment
returns-in_err-grow-clause-any_moment g c told =
    let file = g.D.Disk.seen c.args.disk.now in
    c.grow.ensures.any_moment c.args.area c.args.place file (let e = c.requires.size told in omega (arith, e))
    (λ image left. subst (Keeps c.args.area c.args.place file) (sym (c.requires.durable told image left)) (keeps_same c.args.area c.args.place file))

pub returns-in_err-write_area-clause-any_moment : goal.returns-in_err-write_area-clause-any_moment
returns-in_err-write_area-clause-any_moment g c told =
    let file = g.D.Disk.seen c.args.disk.now in
    let P : List ℕ → Type 0 = Keeps c.args.area c.args.place file in
    let few : length file ≤ length_of_pages c.args.pages = let e = c.requires.size told in omega (arith, e) in
    let begun : AllKeep c.args.area c.args.place file (g.D.Disk.may_leave c.args.disk.now) = λ image left. subst P (sym (c.requires.durable told image left)) (keeps_same c.args.area c.args.place file) in
    then_leaves g.D.Disk.moment g.D.Disk.left_since c.args.disk.now c.grow.new.disk c.write_area.new.disk P P P (c.grow.ensures.any_moment c.args.area c.args.place file few begun)
    (c.write_area.ensures.any_moment c.args.place file (omega arith) (c.grow.ensures.kept c.args.area c.args.place file few begun)) (λ image p. p) (λ image p. p)

pub returns-clause-any_moment : goal.returns-clause-any_moment
returns-clause-any_moment g c told =
    let file = g.D.Disk.seen c.args.disk.now in
    let P : List ℕ → Type 0 = Keeps c.args.area c.args.place file in
    let few : length file ≤ length_of_pages c.args.pages = let e = c.requires.size told in omega (arith, e) in
    let begun : AllKeep c.args.area c.args.place file (g.D.Disk.may_leave c.args.disk.now) = λ image left. subst P (sym (c.requires.durable told image left)) (keeps_same c.args.area c.args.place file) in
    let second = c.write_area.ensures.any_moment c.args.place file (omega arith) (c.grow.ensures.kept c.args.area c.args.place file few begun) in
    let both = then_leaves g.D.Disk.moment g.D.Disk.left_since c.args.disk.now c.grow.new.disk c.write_area.new.disk P P P (c.grow.ensures.any_moment c.args.area c.args.place file few begun) second (λ image p. p) (λ image p. p) in
    goes_on g.D.Disk.moment g.D.Disk.left_since c.args.disk.now c.write_area.new.disk c.sync.new.self P _ both c.sync.ensures.time
    (λ image now. second.each image (g.met.D.Disk.counts_now c.write_area.new.disk (g.D.Disk.moment c.grow.new.disk) image second.later (c.sync.ensures.crash image now)))
