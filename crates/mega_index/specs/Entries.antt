-- What an index over rows is: its entries, in order of their keys.
use Rattle.std.specs.Prelude.{ℕ, ◌+◌, ◌==◌, ◌&&◌, if◌then◌else◌, not, List, [], ◌∷◌, fold, Option, Some, None}
use Rattle.std.specs.BTreeMap.{insert_entry}
use Rattle.mega_base.specs.declared.values.Value.{Value}
use Rattle.mega_base.specs.declared.values.Row.{Row}
use Rattle.mega_schema.specs.declared.schema.Table.{Table}
use Rattle.mega_schema.specs.declared.schema.Index.{Index}
use Rattle.mega_schema.specs.declared.schema.Schema.{Schema}
use Rattle.mega_index.specs.declared.found.Found.{Found}
use Rattle.mega_row_writes.specs.Rows.{key_cmp, Listed}
use Rattle.mega_index.specs.Cells.{key_values, row_with}
use Rattle.mega_index.specs.Fits.{numbered, entry_keys, indexes_of, group_bytes_of, row_fits, stands_in}

-- an entry with this value under each of these keys, in order of key; equal keys are one entry
abbrev pub placed : {A : Type 0} → List (List ℕ × A) → A → List (List ℕ) → List (List ℕ × A)
placed entries value keys = fold (λ es key. insert_entry key_cmp es key value) entries keys

-- what an index names of a row of its table
abbrev pub found_of : Index → Table → Row → Found
found_of x t row = record { table = x.table; key = key_values t.primary row; stored = row_with x.storing row }

-- the entries with those of one more row of the index's table
abbrev pub with_row : Schema → ℕ → Index → Table → List (List ℕ × Found) → Row → List (List ℕ × Found)
with_row s number x t entries row =
    placed entries (found_of x t row) (entry_keys number x (group_bytes_of s x.table t row) (key_values t.primary row) row)

-- the same of a row that stands under this key, which has no entry unless it is a row of the table that fits
abbrev pub with_row_under : Schema → ℕ → Index → Option Table → List (List ℕ × Found) → List ℕ × Row → List (List ℕ × Found)
with_row_under s number x None entries one = entries
with_row_under s number x (Some t) entries one = if stands_in s x.table (Some t) one.0 one.1 then with_row s number x t entries one.1 else entries

-- the index with this number over rows: an entry for each row and each choice of one value of each indexed property
abbrev pub index_of : Schema → ℕ → Index → Listed → List (List ℕ × Found)
index_of s number x rows = fold (λ entries one. with_row_under s number x (numbered s.tables x.table) entries one) [] rows

-- the entries with those that a row of the table has in an index, if that is a local one of the table
abbrev pub with_local : ℕ → Index → ℕ → List ℕ → List Value → Row → Listed → Listed
with_local number x n group key row entries =
    if (x.table == n) && not x.global then placed entries (row_with x.storing row) (entry_keys number x group key row) else entries

-- those in all local indexes, which are numbered from the first number on
abbrev pub local_in : ℕ → List Index → ℕ → List ℕ → List Value → Row → Listed → Listed
local_in number [] n group key row entries = entries
local_in number (x ∷ xs) n group key row entries = local_in (number + 1) xs n group key row (with_local number x n group key row entries)

-- the local entries of a row; one that does not fit has none
abbrev pub local_entries : Schema → ℕ → Table → Option Row → Listed
local_entries s n t None = []
local_entries s n t (Some row) = if row_fits s n t row then local_in 1 (indexes_of s) n (group_bytes_of s n t row) (key_values t.primary row) row [] else []
