use Rattle.std.proofs.Common.{rules, arith}
use Rattle.mega_disk.proofs.Leaves.{goes_on}
use Rattle.mega_chain.proofs.Torn.{piece_torn, piece_written}
use Rattle.mega_chain.proofs.device.write_pieces.Goals as goal

pub returns-in_err-write-clause-torn : goal.returns-in_err-write-clause-torn
returns-in_err-write-clause-torn g c told only image now =
    let from = c.write.ensures.crash image now in
    piece_torn c.args.at c.loop-done.done c.min-count.result c.args.bytes.now (g.D.Disk.seen c.args.disk.now) from.0 image (omega arith) (c.loop-done.invariant.torn told only from.0 from.1) from.2

pub returns-in_err-write-clause-any_moment : goal.returns-in_err-write-clause-any_moment
returns-in_err-write-clause-any_moment g c told only =
    goes_on g.D.Disk.moment g.D.Disk.left_since c.args.disk.now c.loop-done.disk c.write.new.self _ _ (c.loop-done.invariant.moments told only) c.write.ensures.time
    (λ image now. let from = c.write.ensures.crash image now in
    piece_torn c.args.at c.loop-done.done c.min-count.result c.args.bytes.now (g.D.Disk.seen c.args.disk.now) from.0 image (omega arith) (c.loop-done.invariant.torn told only from.0 from.1) from.2)

pub loop-done-preserved : goal.loop-done-preserved
loop-done-preserved g c =
    let i = c.loop-done.invariant in
    let file = g.D.Disk.seen c.args.disk.now in
    record {
      within_bytes = omega arith;
      written = λ told. piece_written c.args.at c.loop-done.done c.min-count.result c.args.bytes.now file (g.D.Disk.seen c.loop-done.disk) (g.D.Disk.seen c.write.new.self) (c.requires.within told) (omega arith) (i.written told) (c.in_ok-write.ensures.written told);
      torn = λ told only image now. let from = c.write.ensures.crash image now in
          piece_torn c.args.at c.loop-done.done c.min-count.result c.args.bytes.now file from.0 image (omega arith) (i.torn told only from.0 from.1) from.2;
      moments = λ told only. goes_on g.D.Disk.moment g.D.Disk.left_since c.args.disk.now c.loop-done.disk c.write.new.self _ _ (i.moments told only) c.write.ensures.time
          (λ image now. let from = c.write.ensures.crash image now in
          piece_torn c.args.at c.loop-done.done c.min-count.result c.args.bytes.now file from.0 image (omega arith) (i.torn told only from.0 from.1) from.2);
      later = search rules;
      lowers = search rules;
      by_fuse = search rules;
    }
