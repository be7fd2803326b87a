-- The rows of one table in a group that have a place of their own there.
use Rattle.std.specs.Prelude.{◌≡◌, ℕ, Bool, true, List, Some}
use Rattle.mega_base.specs.declared.values.Row.{Row}
use Rattle.mega_disk.specs.VersionMaps.{HasAscendingKeys, HasRow}
use Rattle.mega_schema.specs.declared.schema.Schema.{Schema}
use Rattle.mega_schema.specs.declared.schema.Table.{Table}
use Rattle.mega_index.specs.Cells.{key_values}
use Rattle.mega_index.specs.Fits.{group_of}
use Rattle.mega_index.specs.Rows.{Listed, Rows}
use Rattle.mega_view.specs.Keys.{IsNamed}
use Rattle.mega_view.specs.Scanning.{is_it}

-- the row's own key values spell this group
abbrev pub is_of : Schema → ℕ → Table → List ℕ → Row → Bool
is_of s n t group row = is_it group (group_of s n t (key_values t.primary row))

-- in order of key, rows that stand there and whose own key values spell the group; of those under keys that an item of the group can name all
pub record AreOwnRows (s : Schema) (n : ℕ) (t : Table) (group : List ℕ) (rows : Rows) (listed : Listed) : Type 0 where
  pub ordered : HasAscendingKeys listed
  pub each : (key : List ℕ) (row : Row) → HasRow listed key row → (rows key ≡ Some row) × (is_of s n t group row ≡ true)
  pub all : (key : List ℕ) (row : Row) → IsNamed s group n key → is_of s n t group row ≡ true → rows key ≡ Some row → HasRow listed key row
