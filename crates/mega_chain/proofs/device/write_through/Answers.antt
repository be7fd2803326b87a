use Rattle.std.proofs.Common.{length}
use Rattle.mega_disk.specs.Images.{Torn}
use Rattle.mega_disk.proofs.Leaves.{goes_on}
use Rattle.mega_chain.proofs.device.write_through.Goals as goal

pub returns-clause-any_moment : goal.returns-clause-any_moment
returns-clause-any_moment g c told only =
    goes_on g.D.Disk.moment g.D.Disk.left_since c.args.disk.now c.write_pieces.new.disk c.sync.new.self (Torn c.args.at (length c.args.bytes.now) (g.D.Disk.seen c.args.disk.now)) _ (c.write_pieces.ensures.any_moment told only) c.sync.ensures.time
    (λ image now. c.write_pieces.ensures.torn told only image (c.sync.ensures.crash image now))
