-- When rows fit a schema, and how a schema grows by statements.
use Rattle.std.specs.Prelude.{◌≡◌, ℕ, true, List, [], ◌∷◌, Some, Ok}
use Rattle.mega_base.specs.declared.values.Row.{Row}
use Rattle.mega_base.specs.declared.values.Value.{Value}
use Rattle.mega_syntax.specs.declared.words.Placed.{Placed}
use Rattle.mega_syntax.specs.declared.words.SchemaWords.{SchemaWords}
use Rattle.mega_syntax.specs.declared.words.Statement.{Statement}
use Rattle.mega_syntax.specs.declared.words.Statement.TheVariants as statements
use Rattle.mega_schema.specs.declared.schema.Table.{Table}
use Rattle.mega_schema.specs.declared.schema.Schema.{Schema}
use Rattle.mega_index.specs.Rows.{Rows}
use Rattle.mega_index.specs.Fits.{numbered, key_of, stands_in}

-- each row under a key that key values of a table spell fits that table, and that key is its own
abbrev pub RowsFit : Schema → Rows → Type 0
RowsFit s rows = (n : ℕ) (t : Table) (values : List Value) (key : List ℕ) (row : Row) → numbered s.tables n ≡ Some t → key_of s n t values ≡ Ok key → rows key ≡ Some row
    → stands_in s n (Some t) key row ≡ true

-- the statement adds properties to a table
abbrev pub IsChange : Statement → Type 0
IsChange (statements.Table t) = ⊥
IsChange (statements.Index i) = ⊥
IsChange (statements.Change c) = Unit {0}

abbrev pub AreChanges : List Placed → Type 0
AreChanges [] = Unit {0}
AreChanges (p ∷ ps) = IsChange p.statement × AreChanges ps

-- the same statements, and behind them others, which only add properties to tables
abbrev pub Continue : List Placed → List Placed → Type 0
Continue [] qs = AreChanges qs
Continue (p ∷ ps) [] = ⊥
Continue (p ∷ ps) (q ∷ qs) = (p.statement ≡ q.statement) × Continue ps qs

-- the words of a longer text: the same name and statements, and behind them statements that only add properties to tables
pub record Continues (words longer : SchemaWords) : Type 0 where
  pub name : longer.name ≡ words.name
  pub statements : Continue words.statements longer.statements
