-- What is kept of the positions that one node decided of a group.
use Rattle.std.specs.Prelude.{◌≡◌, ℕ, ◌-◌, ◌==◌, ◌||◌, max, Bool, false, Option, Some, None}
use Rattle.std.specs.Ordering.{nat_cmp}
use Rattle.std.specs.BTreeSet.{BTreeSet, contains}
use Rattle.mega_base.specs.Climbing.{climb}
use Rattle.mega_tally.specs.declared.reach.Bounds.{Bounds}
use Rattle.mega_tally.specs.declared.reach.Reach.{Reach}

-- how far they go once a position is decided too
abbrev pub bounds_with : BTreeSet ℕ → Bounds → ℕ → Bounds
bounds_with positions before position =
    record { greatest = max before.greatest position; prefix = climb (contains nat_cmp positions) (max before.greatest position - before.prefix) before.prefix }

-- these positions are decided, of which this is the greatest, 0 for none
pub record Reaches (reach : Reach) (test : ℕ → Bool) (most : ℕ) : Type 0 where
  pub positions : (n : ℕ) → contains nat_cmp reach.positions n ≡ test n
  pub greatest : reach.bounds.greatest ≡ most
  pub prefix : reach.bounds.prefix ≡ climb test most 0

-- so it is, or nothing is kept where none is decided
abbrev pub ReachesOrNone : Option Reach → (ℕ → Bool) → ℕ → Type 0
ReachesOrNone None test most = ((n : ℕ) → test n ≡ false) × (most ≡ 0)
ReachesOrNone (Some reach) test most = Reaches reach test most

-- one position more
abbrev pub with_position : ℕ → (ℕ → Bool) → ℕ → Bool
with_position position test n = (position == n) || test n

-- what is kept with one position more, and through which one all are then
pub record Widens (kept : Option Reach) (reach : Reach) (position last : ℕ) : Type 0 where
  pub on : (test : ℕ → Bool) (most : ℕ) → ReachesOrNone kept test most → Reaches reach (with_position position test) (max most position)
  pub through : reach.bounds.prefix ≡ last
