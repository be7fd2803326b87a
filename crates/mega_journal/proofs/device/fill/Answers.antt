use Rattle.std.proofs.Common.{rules, arith}
use Rattle.mega_disk.proofs.Leaves.{goes_on}
use Rattle.mega_journal.proofs.Pieces.{filled_more, piece_read}
use Rattle.mega_journal.proofs.device.fill.Goals as goal

pub loop-at-preserved : goal.loop-at-preserved
loop-at-preserved g c =
    let i = c.loop-at.invariant in
    record {
      within_bytes = search rules;
      filled = λ told. filled_more (g.D.Disk.seen c.args.disk.now) c.loop-at.bytes c.read.new.into c.loop-at.at c.min-count.result _ (let same = c.requires told in omega (arith, same)) (omega arith) (omega arith) (i.filled told) (piece_read (g.D.Disk.seen c.args.disk.now) (g.D.Disk.seen c.loop-at.disk) c.loop-at.bytes c.read.new.into c.loop-at.at c.min-count.result i.seen (omega arith) (c.in_ok-read.ensures.bytes told));
      seen = search rules;
      within = λ image now. i.within image (c.read.ensures.crash image now);
      moments = goes_on g.D.Disk.moment g.D.Disk.left_since c.args.disk.now c.loop-at.disk c.read.new.self (g.D.Disk.may_leave c.args.disk.now) _ i.moments c.read.ensures.time (λ image now. i.within image (c.read.ensures.crash image now));
      later = search rules;
      lowers = search rules;
      by_fuse = search rules;
    }
