use Rattle.mega_two_driver_laws.proofs.Driven.{moves_as_driver}
use Rattle.mega_two_driver_laws.proofs.laws.changes_move_as_drivers.Goals as goal

pub returns : goal.returns
returns c = moves_as_driver
