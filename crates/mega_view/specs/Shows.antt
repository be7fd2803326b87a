-- A list of rows that shows a group's tables.
use Rattle.std.specs.Prelude.{◌≡◌, ℕ, true, List, Some, Ok}
use Rattle.mega_base.specs.declared.names.GroupId.{GroupId}
use Rattle.mega_base.specs.declared.values.Row.{Row}
use Rattle.mega_disk.specs.VersionMaps.{HasAscendingKeys, HasRow}
use Rattle.mega_schema.specs.declared.schema.Schema.{Schema}
use Rattle.mega_schema.specs.declared.schema.Table.{Table}
use Rattle.mega_index.specs.Cells.{key_values}
use Rattle.mega_index.specs.Fits.{group_of, numbered, stands_in}
use Rattle.mega_index.specs.Rows.{Listed, Rows, row_under}
use Rattle.mega_index.specs.Fitted.{table_of}
use Rattle.mega_view.specs.Keys.{IsNamed}

-- the list is in order of key, its row keys of the group's tables are such that an item of the group can name them, under each such key
-- it has the row that is looked up, and a row that stands under its own key is one of the group
pub record Shows (s : Schema) (group : GroupId) (looked : Rows) (listed : Listed) : Type 0 where
  pub ordered : HasAscendingKeys listed
  pub named : (key : List ℕ) (row : Row) (n : ℕ) → HasRow listed key row → table_of s group.key key ≡ Some n → IsNamed s group.key n key
  pub under : (key : List ℕ) (n : ℕ) → IsNamed s group.key n key → looked key ≡ row_under listed key
  pub own : (key : List ℕ) (row : Row) (n : ℕ) (t : Table) → HasRow listed key row → numbered s.tables n ≡ Some t → stands_in s n (Some t) key row ≡ true
      → group_of s n t (key_values t.primary row) ≡ Ok group.key
