use Rattle.std.proofs.Common.{rules, arith}
use Rattle.mega_disk.proofs.Leaves.{then_leaves}
use Rattle.mega_areas.specs.Places.{Keeps}
use Rattle.mega_areas.proofs.Kept.{put_both}
use Rattle.mega_areas.proofs.writing.grow.Goals as goal

pub loop-at-preserved : goal.loop-at-preserved
loop-at-preserved g c =
    let i = c.loop-at.invariant in
    record {
      from_pages = search rules;
      to_wanted = search rules;
      put = λ area place told. put_both area place (g.D.Disk.seen c.args.disk.now) (g.D.Disk.seen c.loop-at.disk) (g.D.Disk.seen c.add_page.new.disk) (i.put area place told) (c.in_ok-add_page.ensures.put area place told);
      size = λ told. c.in_ok-add_page.ensures.size told;
      kept = λ area from file few all. c.add_page.ensures.kept area from file (let up = i.from_pages in omega (arith, few, up)) (i.kept area from file few all);
      moments = λ area from file few all. then_leaves g.D.Disk.moment g.D.Disk.left_since c.args.disk.now c.loop-at.disk c.add_page.new.disk (Keeps area from file) (Keeps area from file) (Keeps area from file)
          (i.moments area from file few all) (c.add_page.ensures.any_moment area from file (let up = i.from_pages in omega (arith, few, up)) (i.kept area from file few all)) (λ image p. p) (λ image p. p);
      later = search rules;
      lowers = search rules;
      by_fuse = search rules;
    }

pub returns-in_err-add_page-clause-kept : goal.returns-in_err-add_page-clause-kept
returns-in_err-add_page-clause-kept g c area from file few all =
    let i = c.loop-at.invariant in
    c.add_page.ensures.kept area from file (let up = i.from_pages in omega (arith, few, up)) (i.kept area from file few all)

pub returns-in_err-add_page-clause-any_moment : goal.returns-in_err-add_page-clause-any_moment
returns-in_err-add_page-clause-any_moment g c area from file few all =
    let i = c.loop-at.invariant in
    then_leaves g.D.Disk.moment g.D.Disk.left_since c.args.disk.now c.loop-at.disk c.add_page.new.disk (Keeps area from file) (Keeps area from file) (Keeps area from file)
    (i.moments area from file few all) (c.add_page.ensures.any_moment area from file (let up = i.from_pages in omega (arith, few, up)) (i.kept area from file few all)) (λ image p. p) (λ image p. p)
