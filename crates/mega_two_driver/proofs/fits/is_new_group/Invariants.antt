use Rattle.std.proofs.Common.{◌≡◌, drop, map}
use Rattle.mega_two_driver.specs.Begins.{group_key}
use Rattle.mega_two_driver.specs.Fits.{is_new}
use Rattle.mega_two_driver.proofs.fits.is_new_group.Given as goal

abbrev pub invariant-loop-other : goal.invariant-loop-other
invariant-loop-other l = is_new (group_key l.txn) (map group_key (drop l.other-index l.txns)) ≡ is_new (group_key l.txn) (map group_key l.txns)
