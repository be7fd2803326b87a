-- The rows that a find looks at, by their places in order, and what they add.
use Rattle.std.specs.Prelude.{◌≡◌, true, ℕ, if◌then◌else◌, nat_eq, Bool, false, List, filter, flat_map, fold, Option, Some, None}
use Rattle.std.specs.List.{starts_with, list_any}
use Rattle.std.specs.BTreeMap.{BTreeMap, get}
use Rattle.std.specs.BTreeSet.{BTreeSet, contains}
use Rattle.mega_base.specs.declared.values.Row.{Row}
use Rattle.mega_schema.specs.declared.schema.Table.{Table}
use Rattle.mega_schema.specs.declared.schema.Index.{Index}
use Rattle.mega_schema.specs.declared.schema.Schema.{Schema}
use Rattle.mega_index.specs.declared.found.Found.{Found}
use Rattle.mega_index.specs.declared.hints.Place.{Place}
use Rattle.mega_index.specs.Hints.{is_place}
use Rattle.mega_index.specs.Marks.{Marked, Marks}
use Rattle.mega_row_writes.specs.Rows.{Listed, key_cmp}
use Rattle.mega_index.specs.Cells.{key_values}
use Rattle.mega_index.specs.Fits.{numbered, entry_keys, group_bytes_of, stands_in}
use Rattle.mega_index.specs.Entries.{placed, found_of}

-- keys of rows, by their groups
abbrev pub Wanted : Type 0
Wanted = BTreeMap (List ℕ) (BTreeSet (List ℕ))

abbrev pub is_in : List ℕ → Option (BTreeSet (List ℕ)) → Bool
is_in key None = false
is_in key (Some keys) = contains key_cmp keys key

abbrev pub is_wanted : Wanted → List ℕ → List ℕ → Bool
is_wanted wanted group key = is_in key (get key_cmp wanted group)

-- the key of an entry begins so
abbrev pub begins : List ℕ → List ℕ → Bool
begins front key = starts_with nat_eq key front

-- those of a row's entries whose keys begin so
abbrev pub front_keys : List ℕ → Schema → ℕ → Index → Table → Row → List (List ℕ)
front_keys front s number x t row = filter (begins front) (entry_keys number x (group_bytes_of s x.table t row) (key_values t.primary row) row)

abbrev pub with_front_in : List ℕ → Schema → ℕ → Index → Option Table → List (List ℕ × Found) → List ℕ × Row → List (List ℕ × Found)
with_front_in front s number x None entries e = entries
with_front_in front s number x (Some t) entries e =
    if stands_in s x.table (Some t) e.0 e.1 then placed entries (found_of x t e.1) (front_keys front s number x t e.1) else entries

-- the entries with those of one more row whose keys begin so
abbrev pub with_front : List ℕ → Schema → ℕ → Index → List (List ℕ × Found) → List ℕ × Row → List (List ℕ × Found)
with_front front s number x entries e = with_front_in front s number x (numbered s.tables x.table) entries e

abbrev pub with_fronts : List ℕ → Schema → ℕ → Index → List (List ℕ × Found) → Listed → List (List ℕ × Found)
with_fronts front s number x entries rows = fold (with_front front s number x) entries rows

abbrev pub KeepsWanted : Wanted → Wanted → Type 0
KeepsWanted old new = (group key : List ℕ) → is_wanted old group key ≡ true → is_wanted new group key ≡ true

abbrev pub PlacesWanted : List Place → Wanted → Type 0
PlacesWanted places wanted = (group key : List ℕ) → list_any (is_place group key) places ≡ true → is_wanted wanted group key ≡ true

-- those of a group's rows that are wanted
abbrev pub rows_wanted : BTreeSet (List ℕ) → Listed → Listed
rows_wanted keys rows = filter (λ (e : List ℕ × Row). contains key_cmp keys e.0) rows

-- those of the rows at the marks
abbrev pub all_wanted : Wanted → Marks → Listed
all_wanted wanted marks = flat_map (λ (m : List ℕ × Marked). filter (λ (e : List ℕ × Row). is_wanted wanted m.0 e.0) m.1.rows) marks
