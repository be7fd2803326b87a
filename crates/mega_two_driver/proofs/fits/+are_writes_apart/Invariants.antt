use Rattle.std.proofs.Common.{length}
use Rattle.mega_two_driver.proofs.fits.+are_writes_apart.Given as goal

abbrev pub decreases-are_writes_apart : goal.decreases-are_writes_apart
decreases-are_writes_apart l = length l.writes.now
