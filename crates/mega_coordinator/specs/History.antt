-- What a coordinator was told in this start, the newest first, and what it holds then.
use Rattle.std.specs.Prelude.{◌≡◌, ℕ, max, Bool, true, false, ◌&&◌, if◌then◌else◌, List, [], ◌∷◌, map, Option, Some, None, is_none, is_some, unwrap_or, Result, Ok, Err}
use Rattle.std.specs.BTreeMap.{BTreeMap, get}
use Rattle.mega_base.specs.declared.names.Epoch.{Epoch}
use Rattle.mega_base.specs.declared.names.GroupId.{GroupId}
use Rattle.mega_coordinator.specs.declared.answers.NotValid.{NotValid}
use Rattle.mega_coordinator.specs.declared.answers.NotValid.TheVariants.{NoMemory}
use Rattle.mega_coordinator.specs.declared.answers.Ticked.{Ticked}
use Rattle.mega_coordinator.specs.declared.lease.Lease.{Lease}
use Rattle.mega_coordinator.specs.declared.standing.Standing.{Standing}
use Rattle.mega_coordinator.specs.declared.coordinator.Coordinator.{Coordinator}
use Rattle.mega_coordinator.specs.Groups.{group_cmp, is_group, refusal}
use Rattle.mega_coordinator.specs.Lease.{after_tick, epoch_of, first_lease, granted_lease, is_due, lost_at, past_ends, past_lease, state_of, tick_ends}

-- a call of a coordinator that was not refused
pub data Call : Type 0 where
  Ticks : (now : ℕ) → Call
  Grants : (cell : ℕ) (epoch : Epoch) (until now : ℕ) → Call
  Passes : (epoch : Epoch) → Call
  Invalidates : (group : GroupId) (position : ℕ) → Call
  Validates : (group : GroupId) (position : ℕ) (begun : Epoch) → Call

-- the epochs, the counted cells, and whether the present epoch serves
abbrev pub lease_of : ℕ → ℕ → List Call → Lease
lease_of start cells [] = first_lease
lease_of start cells (Ticks now ∷ before) = after_tick cells (lease_of start cells before) now
lease_of start cells (Grants cell epoch until now ∷ before) = granted_lease start cells (lease_of start cells before) cell epoch until now
lease_of start cells (Passes epoch ∷ before) = past_lease start (lease_of start cells before) epoch
lease_of start cells (_ ∷ before) = lease_of start cells before

-- the present epoch, and the one that serves
abbrev pub epoch_after : ℕ → ℕ → List Call → Option Epoch
epoch_after start cells calls = epoch_of start (lease_of start cells calls)

abbrev pub serving : ℕ → ℕ → List Call → Option Epoch
serving start cells calls = state_of start (lease_of start cells calls)

-- a call ends the epoch
abbrev pub ends : ℕ → ℕ → List Call → Call → Bool
ends start cells before (Ticks now) = tick_ends cells (lease_of start cells before) now
ends start cells before (Passes epoch) = past_ends start (lease_of start cells before) epoch
ends start cells before _ = false

-- the greatest position at which a group was invalidated in the present epoch, 0 for none
abbrev pub beaten_by : Call → GroupId → ℕ → ℕ
beaten_by (Invalidates other position) group least = if is_group other group then max position least else least
beaten_by _ group least = least

abbrev pub beaten : ℕ → ℕ → List Call → GroupId → ℕ
beaten start cells [] group = 0
beaten start cells (call ∷ before) group = if ends start cells before call then 0 else beaten_by call group (beaten start cells before group)

-- why a validate is refused
abbrev pub refused : ℕ → ℕ → List Call → GroupId → ℕ → Epoch → Option NotValid
refused start cells calls group position begun = refusal (serving start cells calls) (beaten start cells calls group) position begun

-- a group is valid from a lawful validate to the next invalidate of it, or to the end of the epoch
abbrev pub validity_by : ℕ → ℕ → List Call → Call → GroupId → Bool → Bool
validity_by start cells before (Invalidates other position) group valid = if is_group other group then false else valid
validity_by start cells before (Validates other position begun) group valid =
    if is_group other group && is_none (refused start cells before other position begun) then true else valid
validity_by start cells before _ group valid = valid

abbrev pub is_valid : ℕ → ℕ → List Call → GroupId → Bool
is_valid start cells [] group = false
is_valid start cells (call ∷ before) group = if ends start cells before call then false else validity_by start cells before call group (is_valid start cells before group)

-- which cells are counted
abbrev pub counted_cells : ℕ → ℕ → List Call → List Bool
counted_cells start cells calls = map is_some (lease_of start cells calls).until

-- what a tick tells
abbrev pub ticked : ℕ → ℕ → List Call → ℕ → Ticked
ticked start cells calls now =
    record { forgot = map (is_due now) (lease_of start cells calls).until; lost = lost_at start cells (lease_of start cells calls) now }

-- what is kept of a group
abbrev pub standing_of : BTreeMap GroupId Standing → GroupId → Standing
standing_of groups group = unwrap_or (get group_cmp groups group) (record { beaten = record { 0 = 0 }; valid = false })

abbrev pub kept : ℕ → ℕ → List Call → GroupId → Standing
kept start cells calls group = record { beaten = record { 0 = beaten start cells calls group }; valid = is_valid start cells calls group }

-- a coordinator with this start and so many cells keeps what these calls leave
pub record Represents (start cells : ℕ) (coordinator : Coordinator) (calls : List Call) : Type 0 where
  pub start_is : coordinator.start ≡ start
  pub cells_are : coordinator.cells.number ≡ cells
  pub lease : coordinator.lease ≡ lease_of start cells calls
  pub groups : (group : GroupId) → standing_of coordinator.groups group ≡ kept start cells calls group

-- the answer of a validate: Ok exactly where nothing refuses it, unless memory was refused
abbrev pub Answers : Result (Unit {0}) NotValid → Option NotValid → Type 0
Answers (Ok done) refusal = refusal ≡ None
Answers (Err NoMemory) refusal = refusal ≡ None
Answers (Err reason) refusal = refusal ≡ Some reason
