-- What every schema keeps that a text declares.
use Rattle.std.specs.Prelude.{◌≡◌, ◌≤◌, ℕ, length, Some}
use Rattle.mega_schema.specs.declared.schema.Schema.{Schema}
use Rattle.mega_schema.specs.declared.schema.Table.{Table}
use Rattle.mega_index.specs.Fits.{numbered}

-- at most 64 tables and 64 indexes, and the root of each table is one of the tables
pub record IsSmall (s : Schema) : Type 0 where
  pub tables : length s.tables ≤ 64
  pub indexes : length s.indexes ≤ 64
  pub roots : (n : ℕ) (t : Table) → numbered s.tables n ≡ Some t → t.root ≤ 64
