use Rattle.std.proofs.Common.{◌≡◌, ℕ, take}
use Rattle.std.specs.Ordering.{nat_cmp}
use Rattle.std.specs.BTreeMap.{get}
use Rattle.mega_picture.specs.Ways.{first_row}
use Rattle.mega_picture.proofs.journeys.first_rows.Given as goal

abbrev pub invariant-loop-index : goal.invariant-loop-index
invariant-loop-index l = (n : ℕ) → get nat_cmp l.rows n ≡ first_row l.way n (take l.index l.told)
