use Rattle.std.proofs.Common.{length}
use Rattle.mega_two_driver.proofs.rows.+list_in.Given as goal

abbrev pub decreases-list_in : goal.decreases-list_in
decreases-list_in l = length l.reply.now
