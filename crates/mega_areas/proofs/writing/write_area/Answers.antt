use Rattle.std.proofs.Common.{rules, ◌+◌, min, ◌∙◌, arith}
use Rattle.mega_disk.proofs.Leaves.{then_leaves}
use Rattle.mega_areas.specs.Places.{Keeps}
use Rattle.mega_areas.proofs.Kept.{put_read, lowers_on}
use Rattle.mega_areas.proofs.writing.write_area.Goals as goal

pub loop-done-preserved : goal.loop-done-preserved
loop-done-preserved g c =
    let i = c.loop-done.invariant in
    let count = c.min-count.result in
    let place = c.args.place + c.loop-done.done in
    record {
      within_bytes = search rules;
      put = λ told. put_read c.args.area c.args.place c.loop-done.done count c.args.bytes.now (g.D.Disk.seen c.args.disk.now) (g.D.Disk.seen c.loop-done.disk) (g.D.Disk.seen c.write_piece.new.disk) (omega arith) ((c.in_ok-write_piece.ensures.size told)) (i.put told) (c.in_ok-write_piece.ensures.put told);
      size = λ told. c.in_ok-write_piece.ensures.size told ∙ i.size told;
      kept = λ from file le all. c.write_piece.ensures.kept from file (omega (arith, le)) (i.kept from file le all);
      moments = λ from file le all. then_leaves g.D.Disk.moment g.D.Disk.left_since c.args.disk.now c.loop-done.disk c.write_piece.new.disk (Keeps c.args.area from file) (Keeps c.args.area from file) (Keeps c.args.area from file)
          (i.moments from file le all) (c.write_piece.ensures.any_moment from file (omega (arith, le)) (i.kept from file le all)) (λ image p. p) (λ image p. p);
      later = search rules;
      lowers = lowers_on _ _ _ (min c.loop-done.done 1) 1 (min (c.loop-done.done + count) 1) (omega arith) i.lowers c.in_ok-write_piece.ensures.lowers;
      by_fuse = search rules;
    }

pub returns-in_err-write_piece-clause-any_moment : goal.returns-in_err-write_piece-clause-any_moment
returns-in_err-write_piece-clause-any_moment g c from file le all =
    let i = c.loop-done.invariant in
    then_leaves g.D.Disk.moment g.D.Disk.left_since c.args.disk.now c.loop-done.disk c.write_piece.new.disk (Keeps c.args.area from file) (Keeps c.args.area from file) (Keeps c.args.area from file)
    (i.moments from file le all) (c.write_piece.ensures.any_moment from file (omega (arith, le)) (i.kept from file le all)) (λ image p. p) (λ image p. p)
