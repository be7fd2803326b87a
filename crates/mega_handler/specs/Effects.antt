-- What the handlers that the store brings make of a message.
use Rattle.std.specs.Prelude.{ℕ, ◌==◌, nat_lt, if◌then◌else◌, ℤ, ◌+ℤ◌, ◌^◌, List, [], ◌∷◌, take, drop, length, slice_index, Option, Some, None, Result, Ok, Err, option_and_then}
use Rattle.std.specs.Int.{w64, from_be_bytes, cast_signed}
use Rattle.mega_base.specs.Reading.{whole_of}
use Rattle.mega_base.specs.declared.values.Value.{Value}
use Rattle.mega_base.specs.declared.values.Value.TheVariants.{Int32, Int64, Bool as Truth, Str, Raw}
use Rattle.mega_base.specs.declared.values.Row.{Row}
use Rattle.mega_base.specs.declared.names.OpId.{OpId}
use Rattle.mega_base.specs.declared.names.GroupId.{GroupId}
pub use Rattle.mega_base.specs.Values.{is_in_range}
use Rattle.mega_entry.specs.declared.content.Write.{Write}
use Rattle.mega_entry.specs.declared.content.Send.{Send}
use Rattle.mega_entry.specs.declared.content.Name.{Name}
use Rattle.mega_entry.specs.declared.content.Content.{Content}
use Rattle.mega_entry.specs.Entries.{write_at, entry_text, entry_by}
use Rattle.mega_index.specs.of_schema.declared.schema.Schema.{Schema}
use Rattle.mega_index.specs.Rows.{Listed, row_under}
use Rattle.mega_index.specs.Cells.{values_of, row_set}
use Rattle.mega_index.specs.Fitted.{fitted_writes, fitted_sends, most_bytes}

-- writes and sends
abbrev pub Effect : Type 0
Effect = List Write × List Send

-- the one value, where it is an int64
abbrev pub int64_of : List Value → Option ℤ
int64_of (Int64 z ∷ []) = Some z
int64_of _ = None

-- the sum, where it is an int64
abbrev pub sum_of : ℤ → Option ℤ → Option ℤ
sum_of amount z = option_and_then (λ (z : ℤ). if is_in_range (2 ^ 63) (z +ℤ amount) then Some (z +ℤ amount) else None) z

-- a write of the row with the sum, where there is one
abbrev pub sum_written : List ℕ → ℕ → Row → Option ℤ → List Write
sum_written key property row None = []
sum_written key property row (Some z) = record { key = key; row = Some (row_set row property (Int64 z)) } ∷ []

-- no amount is added to the key property
abbrev pub credit_row : ℕ → ℤ → ℕ → List ℕ → Option Row → List Write
credit_row key_property amount property key None = []
credit_row key_property amount property key (Some row) =
    if property == key_property then [] else sum_written key property row (sum_of amount (int64_of (values_of row property)))

-- a payload of eight bytes, an int64 amount, the number of a property, and a row key adds the amount to the property
abbrev pub credit_writes : ℕ → List ℕ → Listed → List Write
credit_writes key_property payload rows =
    if nat_lt (length payload) 9 then [] else
    credit_row key_property (cast_signed w64 (from_be_bytes w64 (take 8 payload))) (slice_index payload 8) (drop 9 payload) (row_under rows (drop 9 payload))

-- a payload that spells one write is that write
abbrev pub read_write : Result Write ℕ → List Write
read_write (Ok write) = write ∷ []
read_write (Err at) = []

abbrev pub copy_writes : List ℕ → List Write
copy_writes payload = read_write (whole_of write_at payload)

-- what of an effect is done: what fits the schema and the group, with the local index writes, over the group's rows
abbrev pub handled : Schema → GroupId → Listed → Effect → Effect
handled s group rows effect = (fitted_writes s group.key (row_under rows) effect.0, fitted_sends s group.key effect.1)

-- the entry of an operation that handles a message with this effect
abbrev pub entry_handling : OpId → Name → Effect → Content
entry_handling op name effect = record (entry_by op) { writes = effect.0; sends = effect.1; handles = name ∷ [] }

-- where that entry would be too long it has the handle mark alone
abbrev pub handle_entry : OpId → Name → Effect → Content
handle_entry op name effect =
    if nat_lt most_bytes (length (entry_text (entry_handling op name effect))) then entry_handling op name ([], []) else entry_handling op name effect
