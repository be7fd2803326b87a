use Rattle.std.proofs.Common.{length}
use Rattle.mega_two_driver.proofs.tables.+same_names.Given as goal

abbrev pub decreases-same_names : goal.decreases-same_names
decreases-same_names l = length l.properties.now
