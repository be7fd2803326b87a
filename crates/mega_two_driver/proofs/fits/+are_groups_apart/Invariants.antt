use Rattle.std.proofs.Common.{length}
use Rattle.mega_two_driver.proofs.fits.+are_groups_apart.Given as goal

abbrev pub decreases-are_groups_apart : goal.decreases-are_groups_apart
decreases-are_groups_apart l = length l.txns.now
