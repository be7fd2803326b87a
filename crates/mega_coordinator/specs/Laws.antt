-- What follows from the rule of a coordinator, over any list of calls.
use Rattle.std.specs.Prelude.{◌≡◌, ℕ, ◌+◌, ◌/◌, ◌≤◌, ◌⊎◌, Bool, false, cond, if◌then◌else◌, nat_lt, List, [], ◌∷◌, count_by, is_some, Option, Some, None}
use Rattle.mega_base.specs.declared.names.Epoch.{Epoch}
use Rattle.mega_base.specs.declared.names.GroupId.{GroupId}
use Rattle.mega_coordinator.specs.Lease.{counted_by}
use Rattle.mega_coordinator.specs.History.{Call, Validates, Invalidates, ends, lease_of, refused, serving}

-- how many epochs ended in this start
abbrev pub endings : ℕ → ℕ → List Call → ℕ
endings start cells [] = 0
endings start cells (call ∷ before) = cond (ends start cells before call) 1 0 + endings start cells before

-- the epoch after so many endings; after that with count 2^32 - 1 there is none
abbrev pub epoch_at : ℕ → ℕ → Option Epoch
epoch_at start count = if nat_lt count 4294967296 then Some (record { start = start; count = count }) else None

-- how many cells are counted
abbrev pub counted_number : ℕ → ℕ → List Call → ℕ
counted_number start cells calls = count_by is_some (lease_of start cells calls).until

-- a cell is counted
abbrev pub is_counted : ℕ → ℕ → List Call → ℕ → Bool
is_counted start cells calls cell = is_some (counted_by (lease_of start cells calls) cell)

-- this epoch serves with a majority of the cells, and it is the one after so many endings
pub record ServesAlone (start cells : ℕ) (calls : List Call) (epoch : Epoch) : Type 0 where
  pub present : epoch ≡ record { start = start; count = endings start cells calls }
  pub majority : cells / 2 + 1 ≤ counted_number start cells calls

-- a reader that nothing refused validated the group at this position, and the epoch has not ended since
abbrev pub IsValidated : ℕ → ℕ → List Call → GroupId → ℕ → Type 0
IsValidated start cells [] group position = Unit {0} → ⊥
IsValidated start cells (call ∷ before) group position =
    (ends start cells before call ≡ false) × (((begun : Epoch) × (call ≡ Validates group position begun) × (refused start cells before group position begun ≡ None)) ⊎ IsValidated start cells before group position)

-- the group was invalidated at this position, and the epoch has not ended since
abbrev pub IsInvalidated : ℕ → ℕ → List Call → GroupId → ℕ → Type 0
IsInvalidated start cells [] group position = Unit {0} → ⊥
IsInvalidated start cells (call ∷ before) group position =
    (ends start cells before call ≡ false) × ((call ≡ Invalidates group position) ⊎ IsInvalidated start cells before group position)

-- the group was validated in the present epoch, which serves, at a position at least that of every invalidate of it there
pub record ValidatedAbove (start cells : ℕ) (calls : List Call) (group : GroupId) : Type 0 where
  pub epoch : Epoch
  pub serves : serving start cells calls ≡ Some epoch
  pub position : ℕ
  pub validated : IsValidated start cells calls group position
  pub above : (invalidated : ℕ) → IsInvalidated start cells calls group invalidated → invalidated ≤ position
