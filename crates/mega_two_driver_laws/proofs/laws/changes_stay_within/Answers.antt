use Rattle.mega_two_driver.proofs.Within.{stays_within}
use Rattle.mega_two_driver_laws.proofs.laws.changes_stay_within.Goals as goal

pub returns : goal.returns
returns c = stays_within
