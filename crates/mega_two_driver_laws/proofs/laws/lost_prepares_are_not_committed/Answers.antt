use Rattle.mega_two_driver_laws.proofs.Past.{never_committed}
use Rattle.mega_two_driver_laws.proofs.laws.lost_prepares_are_not_committed.Goals as goal

pub returns : goal.returns
returns c = never_committed
