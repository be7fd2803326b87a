-- The rule of a coordinator's lease: its epochs, which cells are counted and until when, and when it serves.
use Rattle.std.specs.Prelude.{ℕ, ◌+◌, ◌-◌, ◌/◌, ◌==◌, ◌&&◌, ◌||◌, max, Bool, false, not, if◌then◌else◌, nat_lt, nat_le, List, [], ◌∷◌, map, count_by, slice_index_or, slice_set, Option, Some, None, is_some, unwrap_or, option_map, option_and_then}
use Rattle.std.specs.Option.{option_map_or}
use Rattle.std.specs.List.{list_any}
use Rattle.mega_base.specs.declared.names.Epoch.{Epoch}
use Rattle.mega_coordinator.specs.declared.answers.Counted.{Counted}
use Rattle.mega_coordinator.specs.declared.answers.Counted.TheVariants.{No, Yes, Serving}
use Rattle.mega_coordinator.specs.declared.lease.Lease.{Lease}

-- no cell is counted
abbrev pub none_counted : List (Option ℕ)
none_counted = None ∷ None ∷ None ∷ None ∷ None ∷ []

-- a start begins with its epoch 0, which does not serve
abbrev pub first_lease : Lease
first_lease = record { count = Some 0; serves = false; until = none_counted }

-- the present epoch is the start and the number of endings in it; after the last there is none
abbrev pub epoch_of : ℕ → Lease → Option Epoch
epoch_of start lease = option_map (λ count. record { start = start; count = count }) lease.count

abbrev pub is_present : ℕ → Lease → Epoch → Bool
is_present start lease e = option_map_or (λ count. e.start == start && e.count == count) lease.count false

-- the epoch that serves
abbrev pub state_of : ℕ → Lease → Option Epoch
state_of start lease = if lease.serves then epoch_of start lease else None

-- an ending: the count rises by one, no cell is counted, and nothing serves
abbrev pub next_count : Option ℕ → Option ℕ
next_count count = option_and_then (λ (count : ℕ). if count == 4294967295 then None else Some (count + 1)) count

abbrev pub next_lease : Lease → Lease
next_lease lease = record { count = next_count lease.count; serves = false; until = none_counted }

-- a majority of the cluster's cells is counted
abbrev pub is_majority : ℕ → List (Option ℕ) → Bool
is_majority cells until = nat_le (cells / 2 + 1) (count_by is_some until)

-- until when a cell is counted
abbrev pub counted_by : Lease → ℕ → Option ℕ
counted_by lease cell = slice_index_or lease.until (cell - 1) None

-- a grant counts for the present epoch, until a time above the clock, and not of a cell that is not counted while the epoch serves
abbrev pub counts : ℕ → ℕ → Lease → ℕ → Epoch → ℕ → ℕ → Bool
counts start cells lease cell e until now = is_present start lease e && nat_lt now until && nat_lt 0 cell && nat_le cell cells && (not lease.serves || is_some (counted_by lease cell))

-- of several grants of a cell the greatest time holds
abbrev pub until_with : Lease → ℕ → ℕ → List (Option ℕ)
until_with lease cell until = slice_set lease.until (cell - 1) (Some (max until (unwrap_or (counted_by lease cell) 0)))

-- the epoch serves from when a majority is counted
abbrev pub after_grant : ℕ → Lease → ℕ → ℕ → Lease
after_grant cells lease cell until =
    record { count = lease.count; serves = lease.serves || is_majority cells (until_with lease cell until); until = until_with lease cell until }

abbrev pub granted_lease : ℕ → ℕ → Lease → ℕ → Epoch → ℕ → ℕ → Lease
granted_lease start cells lease cell e until now = if counts start cells lease cell e until now then after_grant cells lease cell until else lease

abbrev pub granted_answer : ℕ → ℕ → Lease → ℕ → Epoch → ℕ → ℕ → Counted
granted_answer start cells lease cell e until now =
    if counts start cells lease cell e until now
    then (if not lease.serves && is_majority cells (until_with lease cell until) then Serving else Yes)
    else No

-- a cell is forgotten at a tick at or past its time
abbrev pub is_due : ℕ → Option ℕ → Bool
is_due now until = option_map_or (λ time. nat_le time now) until false

abbrev pub left : ℕ → Option ℕ → Option ℕ
left now until = if is_due now until then None else until

-- a tick ends an epoch that serves where fewer than a majority are left, and another where a cell is forgotten
abbrev pub tick_ends : ℕ → Lease → ℕ → Bool
tick_ends cells lease now = if lease.serves then not (is_majority cells (map (left now) lease.until)) else list_any (is_due now) lease.until

abbrev pub after_tick : ℕ → Lease → ℕ → Lease
after_tick cells lease now = if tick_ends cells lease now then next_lease lease else record lease { until = map (left now) lease.until }

-- a serving epoch that a tick ends is lost
abbrev pub lost_at : ℕ → ℕ → Lease → ℕ → Option Epoch
lost_at start cells lease now = if tick_ends cells lease now then state_of start lease else None

-- a cell that is past the present epoch ends it where it does not serve
abbrev pub past_ends : ℕ → Lease → Epoch → Bool
past_ends start lease e = is_present start lease e && not lease.serves

abbrev pub past_lease : ℕ → Lease → Epoch → Lease
past_lease start lease e = if past_ends start lease e then next_lease lease else lease
