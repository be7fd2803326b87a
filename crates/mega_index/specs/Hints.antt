-- Hints: for each key of an entry the places of rows that may have the entry.
use Rattle.std.specs.Prelude.{◌≡◌, true, ℕ, ◌+◌, ◌&&◌, if◌then◌else◌, Bool, false, List, [], ◌∷◌, ◌++◌, Option, Some, None}
use Rattle.std.specs.List.{list_any, list_all}
use Rattle.std.specs.BTreeMap.{BTreeMap, get}
use Rattle.mega_base.specs.declared.values.Row.{Row}
use Rattle.mega_row_writes.specs.of_entry.declared.content.Write.{Write}
use Rattle.mega_schema.specs.declared.schema.Table.{Table}
use Rattle.mega_schema.specs.declared.schema.Index.{Index}
use Rattle.mega_schema.specs.declared.schema.Schema.{Schema}
use Rattle.mega_index.specs.declared.hints.Place.{Place}
use Rattle.mega_row_writes.specs.Rows.{Listed, key_cmp, same_key}
use Rattle.mega_index.specs.Cells.{key_values}
use Rattle.mega_index.specs.Fits.{numbered, entry_keys, indexes_of, group_bytes_of, stands_in}
use Rattle.mega_index.specs.Marks.{Marked, Marks}

abbrev pub Hints : Type 0
Hints = BTreeMap (List ℕ) (List Place)

-- the keys that a row of the table has in an index
abbrev pub table_keys : Schema → ℕ → Index → Option Table → List ℕ → Row → List (List ℕ)
table_keys s number x None key row = []
table_keys s number x (Some t) key row =
    if stands_in s x.table (Some t) key row then entry_keys number x (group_bytes_of s x.table t row) (key_values t.primary row) row else []

-- the keys of the entries that the row under this key has in an index
abbrev pub row_keys : Schema → ℕ → Index → List ℕ → Row → List (List ℕ)
row_keys s number x key row = table_keys s number x (numbered s.tables x.table) key row

abbrev pub global_keys_of : Schema → ℕ → Index → List ℕ → Row → List (List ℕ)
global_keys_of s number x key row = if x.global then row_keys s number x key row else []

-- those in all global indexes, which are numbered from the first number on
abbrev pub global_keys_in : Schema → ℕ → List Index → List ℕ → Row → List (List ℕ)
global_keys_in s number [] key row = []
global_keys_in s number (x ∷ xs) key row = global_keys_of s number x key row ++ global_keys_in s (number + 1) xs key row

abbrev pub global_keys : Schema → List ℕ → Row → List (List ℕ)
global_keys s key row = global_keys_in s 1 (indexes_of s) key row

-- the place is that of this key in this group
abbrev pub is_place : List ℕ → List ℕ → Place → Bool
is_place group key p = same_key group p.group && same_key key p.key

abbrev pub is_among : List ℕ → List ℕ → Option (List Place) → Bool
is_among group key None = false
is_among group key (Some places) = list_any (is_place group key) places

-- the row under this key in this group may have the entry
abbrev pub is_hinted : Hints → List ℕ → List ℕ → List ℕ → Bool
is_hinted hints entry group key = is_among group key (get key_cmp hints entry)

-- the row's entries are all hinted
abbrev pub row_is_hinted : Schema → Hints → List ℕ → List ℕ × Row → Bool
row_is_hinted s hints group e = list_all (λ entry. is_hinted hints entry group e.0) (global_keys s e.0 e.1)

abbrev pub rows_are_hinted : Schema → Hints → List ℕ → Listed → Bool
rows_are_hinted s hints group rows = list_all (row_is_hinted s hints group) rows

-- the entries of all rows at the marks are
abbrev pub all_hinted : Schema → Hints → Marks → Bool
all_hinted s hints marks = list_all (λ (m : List ℕ × Marked). rows_are_hinted s hints m.0 m.1.rows) marks

-- no hint is lost
abbrev pub KeepsHints : Hints → Hints → Type 0
KeepsHints old new = (entry group key : List ℕ) → is_hinted old entry group key ≡ true → is_hinted new entry group key ≡ true

-- the entries of these writes are all hinted
abbrev pub write_is_hinted : Schema → Hints → List ℕ → Write → Bool
write_is_hinted s hints group write = by write.row
  where
    by : Option Row → Bool
    by None = true
    by (Some row) = row_is_hinted s hints group (write.key, row)

abbrev pub writes_are_hinted : Schema → Hints → List ℕ → List Write → Bool
writes_are_hinted s hints group writes = list_all (write_is_hinted s hints group) writes
