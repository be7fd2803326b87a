-- Entries are in order of key, so no key stands twice.
use Rattle.std.proofs.Common.{◌≡◌, ℕ, ◌+◌, true, false, List, [], ◌∷◌}
use Rattle.std.specs.Prelude.{Option, Some, None, ◌==◌, ◌&&◌, not, if◌then◌else◌}
use Rattle.std.specs.BTreeMap.{insert_entry}
use Rattle.mega_base.specs.declared.values.Value.{Value}
use Rattle.mega_base.specs.declared.values.Row.{Row}
use Rattle.mega_schema.specs.declared.schema.Table.{Table}
use Rattle.mega_schema.specs.declared.schema.Index.{Index}
use Rattle.mega_schema.specs.declared.schema.Schema.{Schema}
use Rattle.mega_row_writes.specs.Rows.{Listed, key_cmp, row_under, written}
use Rattle.mega_index.specs.Cells.{key_values, row_with}
use Rattle.mega_index.specs.Fits.{indexes_of, group_bytes_of, entry_keys, row_fits}
use Rattle.mega_index.specs.Entries.{placed, with_local, local_in, local_entries}
use Rattle.mega_index.specs.LocalWrites.{Apart, turned}
use Rattle.mega_row_writes.proofs.Turning.{turned_turns}
use Rattle.mega_index.proofs.Ordered.{Ascends, below-none, insert-ascends}

ascends-apart : (es : Listed) → Ascends es → Apart es
ascends-apart [] up = tt
ascends-apart (e ∷ es) up = (below-none e.0 es up.0, ascends-apart es up.1)

placed-ascends : (keys : List (List ℕ)) (es : Listed) (v : Row) → Ascends es → Ascends (placed es v keys)
placed-ascends [] es v up = up
placed-ascends (k ∷ ks) es v up = placed-ascends ks (insert_entry key_cmp es k v) v (insert-ascends k v es up)

with_local-ascends : (number : ℕ) (x : Index) (n : ℕ) (group : List ℕ) (key : List Value) (row : Row) (es : Listed) → Ascends es → Ascends (with_local number x n group key row es)
with_local-ascends number x n group key row es up =
    elim ((x.table == n) && not x.global) as (λ b. Ascends (if b then placed es (row_with x.storing row) (entry_keys number x group key row) else es))
    [ true ↦ placed-ascends (entry_keys number x group key row) es (row_with x.storing row) up | false ↦ up ]

local_in-ascends : (xs : List Index) (number n : ℕ) (group : List ℕ) (key : List Value) (row : Row) (es : Listed) → Ascends es → Ascends (local_in number xs n group key row es)
local_in-ascends [] number n group key row es up = up
local_in-ascends (x ∷ xs) number n group key row es up =
    local_in-ascends xs (number + 1) n group key row (with_local number x n group key row es) (with_local-ascends number x n group key row es up)

local_entries-ascends : (s : Schema) (n : ℕ) (t : Table) (row : Option Row) → Ascends (local_entries s n t row)
local_entries-ascends s n t None = tt
local_entries-ascends s n t (Some row) =
    elim (row_fits s n t row) as (λ b. Ascends (if b then local_in 1 (indexes_of s) n (group_bytes_of s n t row) (key_values t.primary row) row [] else []))
    [ true ↦ local_in-ascends (indexes_of s) 1 n (group_bytes_of s n t row) (key_values t.primary row) row [] tt | false ↦ tt ]

pub local_turns : (s : Schema) (n : ℕ) (t : Table) (old new : Option Row) (key : List ℕ)
    → written (turned (local_entries s n t old) (local_entries s n t new)) (row_under (local_entries s n t old)) key ≡ row_under (local_entries s n t new) key
local_turns s n t old new key =
    turned_turns (local_entries s n t old) (local_entries s n t new) key (ascends-apart (local_entries s n t new) (local_entries-ascends s n t new))
