use Rattle.mega_two_driver_laws.proofs.Driven.{stays_reached}
use Rattle.mega_two_driver_laws.proofs.laws.changes_stay_reached.Goals as goal

pub returns : goal.returns
returns c = stays_reached
