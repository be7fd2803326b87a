-- What the writes of a transaction come to.
use Rattle.std.specs.Prelude.{ℕ, ◌+◌, ◌^◌, ◌&&◌, not, ℤ, ◌+ℤ◌, if◌then◌else◌, Bool, true, false, List, [], ◌∷◌, ◌++◌, is_some, Option, Some, None, Result, Ok, Err}
use Rattle.mega_base.specs.declared.values.Value.{Value}
use Rattle.mega_base.specs.declared.values.Value.TheVariants.{Int32, Int64}
use Rattle.mega_base.specs.declared.values.Kind.{Kind}
use Rattle.mega_base.specs.declared.values.Kind.TheVariants as kinds
use Rattle.mega_base.specs.declared.values.Row.{Row}
pub use Rattle.mega_base.specs.Values.{is_in_range}
use Rattle.mega_index.specs.of_entry.declared.content.Write.{Write}
use Rattle.mega_index.specs.of_syntax.declared.need.Need.{Need}
use Rattle.mega_index.specs.of_syntax.declared.need.Need.TheVariants.{Required, Optional}
use Rattle.mega_index.specs.of_schema.declared.schema.Property.{Property}
use Rattle.mega_index.specs.of_schema.declared.schema.Table.{Table}
use Rattle.mega_index.specs.of_schema.declared.schema.Schema.{Schema}
use Rattle.mega_index.specs.Rows.{Rows, written}
use Rattle.mega_index.specs.Cells.{values_of, key_values, is_listed, row_set}
use Rattle.mega_index.specs.Fits.{numbered, fits, long_key}
use Rattle.mega_index.specs.LocalWrites.{index_writes}
use Rattle.mega_outcome.specs.declared.answer.Turn.{Turn}
use Rattle.mega_outcome.specs.declared.answer.Turn.TheVariants.{BadRow, NoRow, Overflow}
use Rattle.mega_outcome.specs.declared.transaction.Change.{Change}
use Rattle.mega_outcome.specs.declared.transaction.Change.TheVariants.{Put, Delete, Add}
use Rattle.mega_outcome.specs.Places.{◌>>=◌, key_in}

-- the write of a row of the table, then the local index writes that belong to it
abbrev pub replaced : Schema → ℕ → List ℕ → Option Row → Option Row → List Write
replaced s n key old new = record { key = key; row = new } ∷ index_writes s n old new

-- a put of a row into a table
abbrev pub put_in : Schema → List ℕ → Rows → ℕ → ℕ → Option Table → Row → Result (List Write) Turn
put_in s group rows i n None row = Err (BadRow i)
put_in s group rows i n (Some t) row =
    key_in s group i n (key_values t.primary row) >>= λ key.
    if fits s n row then Ok (replaced s n key (rows key) (Some row)) else Err (BadRow i)

-- a deletion of the row that stands there
abbrev pub delete_at : Schema → ℕ → ℕ → List ℕ → Option Row → Result (List Write) Turn
delete_at s i n key None = Err (NoRow i)
delete_at s i n key (Some old) = Ok (replaced s n key (Some old) None)

-- the property holds one number
abbrev pub is_number : Kind → Need → Bool
is_number kinds.Int32 Required = true
is_number kinds.Int32 Optional = true
is_number kinds.Int64 Required = true
is_number kinds.Int64 Optional = true
is_number _ _ = false

-- the one value, where it is a number of the kind
abbrev pub number_of : Kind → List Value → Option ℤ
number_of kinds.Int32 (Int32 z ∷ []) = Some z
number_of kinds.Int64 (Int64 z ∷ []) = Some z
number_of _ _ = None

-- the number as a value of the kind, where it is in the kind's range
abbrev pub number_value : Kind → ℤ → Option Value
number_value kinds.Int32 z = if is_in_range (2 ^ 31) z then Some (Int32 z) else None
number_value kinds.Int64 z = if is_in_range (2 ^ 63) z then Some (Int64 z) else None
number_value _ z = None

abbrev pub or_overflow : ℕ → Option Value → Result Value Turn
or_overflow i None = Err (Overflow i)
or_overflow i (Some v) = Ok v

-- the sum of the number that the property has and another; is_long tells that an index key of the row is too long
abbrev pub sum_of : ℕ → Kind → Option ℤ → Bool → ℤ → Result Value Turn
sum_of i kind (Some z) false by = or_overflow i (number_value kind (z +ℤ by))
sum_of i kind _ _ by = Err (BadRow i)

-- an addition to a property of the row that stands there
abbrev pub add_to : Schema → ℕ → ℕ → Table → List ℕ → ℕ → Kind → Option Row → ℤ → Result (List Write) Turn
add_to s i n t key property kind None by = Err (NoRow i)
add_to s i n t key property kind (Some row) by =
    sum_of i kind (number_of kind (values_of row property)) (is_some (long_key s n t row)) by >>= λ v.
    Ok (replaced s n key (Some row) (Some (row_set row property v)))

-- no number is added to an unknown property, one of the primary key, or one that does not hold one number
abbrev pub add_in : Schema → ℕ → ℕ → Table → List ℕ → ℕ → Option Property → Option Row → ℤ → Result (List Write) Turn
add_in s i n t key property None row by = Err (BadRow i)
add_in s i n t key property (Some p) row by =
    if is_number p.kind p.need && not (is_listed t.primary property) then add_to s i n t key property p.kind row by else Err (BadRow i)

abbrev pub add_at : Schema → ℕ → ℕ → Option Table → List ℕ → ℕ → Option Row → ℤ → Result (List Write) Turn
add_at s i n None key property row by = Err (BadRow i)
add_at s i n (Some t) key property row by = add_in s i n t key property (numbered t.properties property) row by

-- item i, on the rows as the earlier ones left them
abbrev pub change : Schema → List ℕ → Rows → ℕ → Change → Result (List Write) Turn
change s group rows i (Put n row) = put_in s group rows i n (numbered s.tables n) row
change s group rows i (Delete row) = key_in s group i row.table row.key >>= λ key. delete_at s i row.table key (rows key)
change s group rows i (Add row property by) =
    key_in s group i row.table row.key >>= λ key. add_at s i row.table (numbered s.tables row.table) key property (rows key) by

-- items from i on, each on what the earlier ones left
abbrev pub all_changes : Schema → List ℕ → Rows → ℕ → List Change → Result (List Write) Turn
all_changes s group rows i [] = Ok []
all_changes s group rows i (c ∷ cs) =
    change s group rows i c >>= λ writes.
    all_changes s group (written writes rows) (i + 1) cs >>= λ others.
    Ok (writes ++ others)
