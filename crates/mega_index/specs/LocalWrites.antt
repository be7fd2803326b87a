-- The writes that turn the local index entries of a row's old state into those of its new one, and the length for which they are refused.
use Rattle.std.specs.Prelude.{ℕ, if◌then◌else◌, List, [], Option, Some, None, Result, Ok, Err}
use Rattle.mega_base.specs.declared.values.Row.{Row}
use Rattle.mega_row_writes.specs.of_entry.declared.content.Write.{Write}
use Rattle.mega_schema.specs.declared.schema.Table.{Table}
use Rattle.mega_schema.specs.declared.schema.Schema.{Schema}
pub use Rattle.mega_row_writes.specs.RowWrites.{Apart, fresh, fresh_one, gone, gone_one, is_row, turned}
use Rattle.mega_index.specs.Fits.{numbered, has_place, long_key}
use Rattle.mega_index.specs.Entries.{local_entries}

-- the local index writes that belong to a change of a row of the table
abbrev pub index_writes_in : Schema → ℕ → Option Table → Option Row → Option Row → List Write
index_writes_in s n None old new = []
index_writes_in s n (Some t) old new = turned (local_entries s n t old) (local_entries s n t new)

abbrev pub index_writes : Schema → ℕ → Option Row → Option Row → List Write
index_writes s n old new = index_writes_in s n (numbered s.tables n) old new

-- the length of the first index key of a new row that is too long, where the row is one of the table but for that
abbrev pub refused_length : Schema → ℕ → Option Table → Option Row → Option ℕ
refused_length s n None new = None
refused_length s n (Some t) None = None
refused_length s n (Some t) (Some row) = if has_place s n t row then long_key s n t row else None

-- those writes, or the length for which they are refused
abbrev pub unless_long : Option ℕ → List Write → Result (List Write) ℕ
unless_long None writes = Ok writes
unless_long (Some n) writes = Err n

abbrev pub local_writes_of : Schema → ℕ → Option Row → Option Row → Result (List Write) ℕ
local_writes_of s n old new = unless_long (refused_length s n (numbered s.tables n) new) (index_writes s n old new)
