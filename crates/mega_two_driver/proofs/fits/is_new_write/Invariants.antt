use Rattle.std.proofs.Common.{◌≡◌, drop, map}
use Rattle.mega_two_driver.specs.Fits.{is_new, key_of}
use Rattle.mega_two_driver.proofs.fits.is_new_write.Given as goal

abbrev pub invariant-loop-other : goal.invariant-loop-other
invariant-loop-other l = is_new (key_of l.write) (map key_of (drop l.other-index l.writes)) ≡ is_new (key_of l.write) (map key_of l.writes)
