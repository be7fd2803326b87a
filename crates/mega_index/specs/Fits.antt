-- Which rows fit the schema: exactly those that a put does not refuse as bad.
use Rattle.std.specs.Prelude.{ℕ, ◌+◌, ◌==◌, ◌&&◌, if◌then◌else◌, Bool, true, false, List, [], ◌∷◌, ◌++◌, length, map, filter, fold, take, find, flat_map, nat_lt, nat_le, Option, Some, None, is_ok, is_none, Result, Ok, Err}
use Rattle.std.specs.Option.{option_or}
use Rattle.std.specs.List.{list_all}
use Rattle.mega_base.specs.declared.values.Value.{Value}
use Rattle.mega_base.specs.declared.values.Cell.{Cell}
use Rattle.mega_base.specs.declared.values.Row.{Row}
pub use Rattle.mega_base.specs.ListWords.{numbered}
use Rattle.mega_base.specs.ListWords.{items_or_none}
use Rattle.mega_schema.specs.of_syntax.declared.need.Need.{Need}
use Rattle.mega_schema.specs.of_syntax.declared.need.Need.TheVariants.{Required, Repeated}
use Rattle.mega_schema.specs.declared.schema.Property.{Property}
use Rattle.mega_schema.specs.declared.schema.Table.{Table}
use Rattle.mega_schema.specs.declared.schema.Index.{Index}
use Rattle.mega_schema.specs.declared.schema.Schema.{Schema}
use Rattle.mega_schema.specs.Shaping.{shape_of}
use Rattle.mega_keys.specs.declared.fault.KeyFault.{KeyFault}
use Rattle.mega_keys.specs.Spelling.{root_part, index_bytes}
use Rattle.mega_keys.specs.Fit.{has_kind}
use Rattle.mega_keys.specs.Answers.{row_key_of, group_key_of}
use Rattle.mega_row_writes.specs.Rows.{same_key}
use Rattle.mega_index.specs.Cells.{values_of, key_values}

-- a property may have that many values where it has some: one, or any number where it is repeated
abbrev pub is_count : Need → ℕ → Bool
is_count Repeated n = nat_lt 0 n
is_count _ n = n == 1

-- the property is known, and the values are as many as it may have, each of its kind
abbrev pub cell_fits : Option Property → List Value → Bool
cell_fits None values = false
cell_fits (Some p) values = is_count p.need (length values) && list_all (has_kind p.kind) values

-- the numbers of the cells rise from above low, and each cell fits
abbrev pub cells_fit : List Property → ℕ → List Cell → Bool
cells_fit ps low [] = true
cells_fit ps low (c ∷ cs) = nat_lt low c.property && (cell_fits (numbered ps c.property) c.values && cells_fit ps c.property cs)

-- there is a value where one is required
abbrev pub is_filled : Need → List Value → Bool
is_filled Required [] = false
is_filled _ _ = true

-- each required property, of those numbered from n on, has a value
abbrev pub has_required : ℕ → List Property → Row → Bool
has_required n [] row = true
has_required n (p ∷ ps) row = is_filled p.need (values_of row n) && has_required (n + 1) ps row

-- the row has the properties of the table
abbrev pub properties_fit : Table → Row → Bool
properties_fit t row = cells_fit t.properties 0 row.cells && has_required 1 t.properties row

-- the key of the row with these key values
abbrev pub key_of : Schema → ℕ → Table → List Value → Result (List ℕ) KeyFault
key_of s n t key = row_key_of (shape_of s n t) key

-- the group that the root key values at the front of these key values spell
abbrev pub group_of : Schema → ℕ → Table → List Value → Result (List ℕ) KeyFault
group_of s n t key = group_key_of (shape_of s n t) (root_part (shape_of s n t) key)

-- a choice with each of these values behind it
abbrev pub with_each : List Value → List Value → List (List Value)
with_each choice values = map (λ v. choice ++ v ∷ []) values

-- each choice so far, with each of these values behind it
abbrev pub extended : List (List Value) → List Value → List (List Value)
extended chosen values = flat_map (λ choice. with_each choice values) chosen

-- one value of each of these properties, in all ways: none where one of them has no value
abbrev pub choices : Row → List ℕ → List (List Value)
choices row numbers = fold (λ chosen n. extended chosen (values_of row n)) ([] ∷ []) numbers

-- what stands before the number of the index: the group of a local index, nothing of a global one
abbrev pub prefix_of : Index → List ℕ → List ℕ
prefix_of x group = if x.global then [] else group

-- the keys that a row of this group with this primary key has in an index, of any length
abbrev pub index_keys : ℕ → Index → List ℕ → List Value → Row → List (List ℕ)
index_keys number x group key row = map (λ choice. index_bytes number (prefix_of x group) choice key) (choices row x.indexed)

-- those of them that an entry may have
abbrev pub entry_keys : ℕ → Index → List ℕ → List Value → Row → List (List ℕ)
entry_keys number x group key row = filter (λ k. nat_le (length k) 1024) (index_keys number x group key row)

-- the length of the first of these keys that has more than 1,024 bytes
abbrev pub first_long : List (List ℕ) → Option ℕ
first_long keys = find (λ n. nat_lt 1024 n) (map length keys)

-- that of the first such key of a row in the indexes over its table, which are numbered from the first number on
abbrev pub long_in : ℕ → List Index → ℕ → List ℕ → List Value → Row → Option ℕ
long_in number [] n group key row = None
long_in number (x ∷ xs) n group key row =
    option_or (if x.table == n then first_long (index_keys number x group key row) else None) (long_in (number + 1) xs n group key row)

-- the indexes of a schema, which are at most 64
abbrev pub indexes_of : Schema → List Index
indexes_of s = take 64 s.indexes

-- the group of a row, empty where it has none
abbrev pub group_bytes_of : Schema → ℕ → Table → Row → List ℕ
group_bytes_of s n t row = items_or_none (group_of s n t (key_values t.primary row))

-- the length of the first index key of a row of the table that is too long
abbrev pub long_key : Schema → ℕ → Table → Row → Option ℕ
long_key s n t row = long_in 1 (indexes_of s) n (group_bytes_of s n t row) (key_values t.primary row) row

-- the row has the properties of the table, and its own key is short enough
abbrev pub has_place : Schema → ℕ → Table → Row → Bool
has_place s n t row = properties_fit t row && is_ok (key_of s n t (key_values t.primary row))

-- the row fits the table with this number
abbrev pub row_fits : Schema → ℕ → Table → Row → Bool
row_fits s n t row = has_place s n t row && is_none (long_key s n t row)

-- the row fits a table with this number, if there is one
abbrev pub fits_in : Schema → ℕ → Option Table → Row → Bool
fits_in s n None row = false
fits_in s n (Some t) row = row_fits s n t row

abbrev pub fits : Schema → ℕ → Row → Bool
fits s n row = fits_in s n (numbered s.tables n) row

-- the row stands under its own key in that table, and fits it
abbrev pub stands_in : Schema → ℕ → Option Table → List ℕ → Row → Bool
stands_in s n None key row = false
stands_in s n (Some t) key row =
    (elim (key_of s n t (key_values t.primary row)) [ Ok own ↦ same_key key own | Err fault ↦ false ]) && row_fits s n t row
