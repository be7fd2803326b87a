-- The rows of a group's tables, by their keys.
use Rattle.std.specs.Prelude.{◌≡◌, ℕ, List, Option, Some}
use Rattle.mega_base.specs.declared.values.Row.{Row}
use Rattle.mega_schema.specs.declared.schema.Schema.{Schema}
use Rattle.mega_index.specs.Rows.{Rows}
use Rattle.mega_index.specs.Fitted.{table_of}
use Rattle.mega_outcome.specs.declared.answer.Shown.{Shown}
use Rattle.mega_view.specs.Keys.{IsNamed}

-- all rows under row keys of the group's tables that its items can name, each with the number of its table, and no others
pub record AreTableRows (s : Schema) (group : List ℕ) (rows : Rows) (found : List ℕ → Option Shown) : Type 0 where
  pub each : (key : List ℕ) (one : Shown) → found key ≡ Some one → IsNamed s group one.table key × (table_of s group key ≡ Some one.table) × (rows key ≡ Some one.row)
  pub all : (key : List ℕ) (n : ℕ) (row : Row) → IsNamed s group n key → table_of s group key ≡ Some n → rows key ≡ Some row → found key ≡ Some (record { table = n; row = row })
