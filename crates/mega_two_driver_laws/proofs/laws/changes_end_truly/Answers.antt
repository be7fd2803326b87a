use Rattle.std.proofs.Common.{refl}
use Rattle.mega_two_laws.proofs.Whole.{endings_true}
use Rattle.mega_two_driver.specs.of_moves.declared.phase.Phase.TheVariants.{Over}
use Rattle.mega_two_driver_laws.specs.Joined.{driver_in, ending_in}
use Rattle.mega_two_driver_laws.proofs.laws.changes_end_truly.Goals as goal

pub returns : goal.returns
returns c = λ events history name parts ending there. endings_true events history (driver_in name parts (Over ending)) (ending_in ending) there refl
