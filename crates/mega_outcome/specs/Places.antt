-- The row that an item of a transaction is about: its group, and its key.
use Rattle.std.specs.Prelude.{ℕ, if◌then◌else◌, List, Option, Some, None, Result, Ok, Err}
use Rattle.mega_base.specs.declared.values.Value.{Value}
use Rattle.mega_base.specs.declared.values.Row.{Row}
pub use Rattle.mega_base.specs.Reading.{◌>>=◌}
use Rattle.mega_index.specs.of_schema.declared.schema.Table.{Table}
use Rattle.mega_index.specs.of_schema.declared.schema.Schema.{Schema}
use Rattle.mega_index.specs.of_keys.declared.fault.KeyFault.{KeyFault}
use Rattle.mega_index.specs.Rows.{Rows, same_key}
use Rattle.mega_index.specs.Fits.{numbered, group_of, key_of}
use Rattle.mega_outcome.specs.declared.answer.Turn.{Turn}
use Rattle.mega_outcome.specs.declared.answer.Turn.TheVariants.{OtherGroup, BadRow}

-- the key, where it could be spelled
abbrev pub spelled : ℕ → Result (List ℕ) KeyFault → Result (List ℕ) Turn
spelled i (Ok key) = Ok key
spelled i (Err fault) = Err (BadRow i)

-- root key values that spell no group are bad; those that spell another are of another group, whatever follows
abbrev pub placed : ℕ → List ℕ → Result (List ℕ) KeyFault → Result (List ℕ) KeyFault → Result (List ℕ) Turn
placed i group (Err fault) key = Err (BadRow i)
placed i group (Ok own) key = if same_key own group then spelled i key else Err (OtherGroup i)

-- the key of the row of a table with these key values, which item i names
abbrev pub key_in_table : Schema → List ℕ → ℕ → ℕ → Option Table → List Value → Result (List ℕ) Turn
key_in_table s group i n None key = Err (BadRow i)
key_in_table s group i n (Some t) key = placed i group (group_of s n t key) (key_of s n t key)

abbrev pub key_in : Schema → List ℕ → ℕ → ℕ → List Value → Result (List ℕ) Turn
key_in s group i n key = key_in_table s group i n (numbered s.tables n) key

-- the row that stands there, or none
abbrev pub row_in : Schema → List ℕ → Rows → ℕ → ℕ → List Value → Result (Option Row) Turn
row_in s group rows i n key = key_in s group i n key >>= λ found. Ok (rows found)
