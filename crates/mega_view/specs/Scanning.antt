-- What a scan of a table's range adds to the rows that were found.
use Rattle.std.specs.Prelude.{◌≡◌, ℕ, ◌==◌, ◌≤◌, ◌&&◌, if◌then◌else◌, Bool, false, List, [], ◌∷◌, fold, Option, Some, Result, Ok, Err}
use Rattle.mega_base.specs.declared.values.Row.{Row}
use Rattle.mega_keys.specs.declared.fault.KeyFault.{KeyFault}
use Rattle.mega_schema.specs.declared.schema.Schema.{Schema}
use Rattle.mega_schema.specs.declared.schema.Table.{Table}
use Rattle.mega_index.specs.Rows.{Listed, Rows, same_key}
use Rattle.mega_index.specs.Fitted.{is_key_of, table_of}
use Rattle.mega_outcome.specs.declared.answer.Shown.{Shown}
use Rattle.mega_view.specs.Keys.{AreBytes, IsNamed}

-- what is found under each key
abbrev pub Found : Type 0
Found = List ℕ → Option Shown

-- with one row more, where its key is one of the table, of the group
abbrev pub with_row : Schema → ℕ → Table → List ℕ → Found → List ℕ × Row → Found
with_row s n t group found e key = if is_key_of s n t group e.0 && same_key e.0 key then Some (record { table = n; row = e.1 }) else found key

abbrev pub with_rows : Schema → ℕ → Table → List ℕ → Found → Listed → Found
with_rows s n t group found rows = fold (with_row s n t group) found rows

abbrev pub HaveByteKeys : Listed → Type 0
HaveByteKeys [] = Unit {0}
HaveByteKeys (e ∷ rows) = AreBytes e.0 × HaveByteKeys rows

-- of the first so many tables all rows are found, and nothing else
pub record AreThrough (s : Schema) (group : List ℕ) (rows : Rows) (count : ℕ) (found : Found) : Type 0 where
  pub each : (key : List ℕ) (one : Shown) → found key ≡ Some one → IsNamed s group one.table key × (table_of s group key ≡ Some one.table) × (rows key ≡ Some one.row)
  pub all : (key : List ℕ) (n : ℕ) (row : Row) → IsNamed s group n key → table_of s group key ≡ Some n → n ≤ count → rows key ≡ Some row → found key ≡ Some (record { table = n; row = row })

-- the group is one of this root
abbrev pub is_in : ℕ → List ℕ → Bool
is_in root [] = false
is_in root (byte ∷ tail) = byte == root

-- what follows the first byte of a group
abbrev pub tail_of : List ℕ → List ℕ
tail_of [] = []
tail_of (byte ∷ tail) = tail

-- the key values spell this group
abbrev pub is_it : List ℕ → Result (List ℕ) KeyFault → Bool
is_it group (Ok own) = same_key own group
is_it group (Err fault) = false
