-- Each group's rows are written by its own entries alone, and stand under keys that its items can name.
use Rattle.std.specs.Prelude.{◌≡◌, ℕ, List, Some, Ok, take}
use Rattle.mega_base.specs.declared.names.GroupId.{GroupId}
use Rattle.mega_base.specs.declared.values.Row.{Row}
use Rattle.mega_base.specs.declared.values.Value.{Value}
use Rattle.mega_schema.specs.declared.schema.Schema.{Schema}
use Rattle.mega_index.specs.Rows.{no_rows, written}
use Rattle.mega_index.specs.Fitted.{table_of}
use Rattle.mega_outcome.specs.Places.{key_in}
use Rattle.mega_replica.specs.Applying.{writes_of}
use Rattle.mega_replica.specs.Stored.{GroupLogs, IsOwn}

-- the rows that an item of a group can name are written by that group's entries alone; and where, behind some of the writes of a
-- group, a row stands under a row key of one of its tables, an item of the group can name it
pub record HasOwnRows (schema : Schema) (log : GroupLogs) : Type 0 where
  pub own : (group : GroupId) (i n : ℕ) (values : List Value) (key : List ℕ) → key_in schema group.key i n values ≡ Ok key → IsOwn log group key
  pub named : (group : GroupId) (key : List ℕ) (n count : ℕ) (row : Row) → table_of schema group.key key ≡ Some n → written (take count (writes_of (log group))) no_rows key ≡ Some row
      → (values : List Value) × (key_in schema group.key 0 n values ≡ Ok key)
