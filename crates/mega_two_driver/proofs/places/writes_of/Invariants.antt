use Rattle.std.proofs.Common.{◌≡◌, drop}
use Rattle.mega_two_driver.specs.Fits.{writes_of, with_front}
use Rattle.mega_two_driver.proofs.places.writes_of.Given as goal

abbrev pub invariant-loop-change : goal.invariant-loop-change
invariant-loop-change l =
    with_front l.writes (writes_of l.schema l.group (drop l.change-index l.changes)) ≡ writes_of l.schema l.group l.changes
