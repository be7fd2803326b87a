-- The world of all groups that the rows of a store show.
use Rattle.std.specs.Prelude.{ℕ, if◌then◌else◌, pos, Bool, false, List, [], ◌∷◌, codes, option_map}
use Rattle.mega_base.specs.declared.values.Value.{Value}
use Rattle.mega_base.specs.declared.values.Value.TheVariants.{Int32, Bool as Truth, Str, Raw}
use Rattle.mega_base.specs.declared.values.Row.{Row}
use Rattle.mega_schema.specs.declared.schema.Schema.{Schema}
use Rattle.mega_index.specs.Cells.{values_of}
use Rattle.mega_entry.specs.Same.{same_values}
use Rattle.mega_index.specs.Fits.{numbered}
use Rattle.mega_schedule.specs.Values.{properties_of, property_number}
use Rattle.mega_two_laws.specs.Parts.{Rows}
use Rattle.mega_two_laws.specs.World.{State, Undecided, Made, Dropped, Plan, World}
use Rattle.mega_two_outcome_laws.specs.Places.{plans, locks, ends, plan_group, plan_place, lock_place, end_place}
use Rattle.mega_two_outcome_laws.specs.Changes.{parts_of}

-- the rows of each group
abbrev pub Stores : Type 0
Stores = List ℕ → Rows

-- the values of the property with this name, in a row of this table
abbrev pub cell : Schema → ℕ → List ℕ → Row → List Value
cell s n name row = values_of row (property_number (properties_of (numbered s.tables n)) name)

-- ---- a plan

abbrev pub number : ℕ → List Value
number n = Int32 (pos n) ∷ []

abbrev pub state_in : List Value → State
state_in values = if same_values values (number 0) then Undecided else (if same_values values (number 1) then Made else Dropped)

abbrev pub bytes_in : List Value → List ℕ
bytes_in (Raw bytes ∷ []) = bytes
bytes_in _ = []

abbrev pub plan_in : Schema → Row → Plan
plan_in s row = record {
  state = state_in (cell s (plans s) (codes "state") row);
  parts = parts_of s (bytes_in (cell s (plans s) (codes "plan") row));
}

-- ---- a lock, and an end

abbrev pub text_in : List Value → List ℕ
text_in (Str text ∷ []) = text
text_in _ = []

abbrev pub holder_in : Schema → List ℕ → Row → List ℕ
holder_in s group row = text_in (cell s (locks s group) (codes "gid") row)

abbrev pub truth_in : List Value → Bool
truth_in (Truth truth ∷ []) = truth
truth_in _ = false

abbrev pub end_in : Schema → List ℕ → Row → Bool
end_in s group row = truth_in (cell s (ends s group) (codes "commit") row)

-- ---- the world

abbrev pub shown : Schema → Stores → World
shown s stores = record {
  plans = λ name. option_map (plan_in s) (stores (plan_group s name) (plan_place s name));
  locks = λ group. option_map (holder_in s group) (stores group (lock_place s group));
  dones = λ group name. option_map (end_in s group) (stores group (end_place s group name));
  rows = stores;
}
