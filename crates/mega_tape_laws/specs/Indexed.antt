-- When the index rows of a group are those of the rows of its tables.
use Rattle.std.specs.Prelude.{◌≡◌, ℕ, ◌+◌, ◌≤◌, if◌then◌else◌, true, false, List, [], ◌∷◌, ◌++◌, length, map, Some, None}
use Rattle.mega_base.specs.declared.names.GroupId.{GroupId}
use Rattle.mega_base.specs.declared.names.OpId.{OpId}
use Rattle.mega_base.specs.declared.values.Cell.{Cell}
use Rattle.mega_base.specs.declared.values.Row.{Row}
use Rattle.mega_schema.specs.declared.schema.Table.{Table}
use Rattle.mega_schema.specs.declared.schema.Index.{Index}
use Rattle.mega_schema.specs.declared.schema.Schema.{Schema}
use Rattle.mega_schema.specs.Lookup.{is_root_table}
use Rattle.mega_keys.specs.Fit.{AreValues}
use Rattle.mega_index.specs.declared.found.Found.{Found}
use Rattle.mega_index.specs.Rows.{Listed, row_under}
use Rattle.mega_index.specs.Fits.{numbered, indexes_of, stands_in}
use Rattle.mega_index.specs.Entries.{index_of}
use Rattle.mega_index.specs.Fitted.{table_of}
use Rattle.mega_outcome.specs.declared.request.Request.{Request}
use Rattle.mega_outcome.specs.declared.request.Request.TheVariants.{Txn, Batch as BatchRequest}
use Rattle.mega_outcome.specs.declared.transaction.Change.{Change}
use Rattle.mega_outcome.specs.declared.transaction.Change.TheVariants.{Put}
use Rattle.mega_outcome.specs.declared.transaction.Transaction.{Transaction}
use Rattle.mega_promises.specs.of_transcript.declared.item.Item.{Item}
use Rattle.mega_promises.specs.of_rules.Acting.{table_rows}
use Rattle.mega_promises.specs.Promises.{asked_for}
use Rattle.mega_tape_laws.specs.Writes.{Usage}

-- an index entry as it is stored: under its key the properties that the index stores
abbrev pub stored_row : List ℕ × Found → List ℕ × Row
stored_row entry = (entry.0, (entry.1).stored)

-- the entries of one index over rows, where it is a local one
abbrev pub entry_rows : Schema → ℕ → Index → Listed → Listed
entry_rows schema number x rows = if x.global then [] else map stored_row (index_of schema number x rows)

-- those of all local indexes, which are numbered from the first number on
abbrev pub local_index_rows : Schema → ℕ → List Index → Listed → Listed
local_index_rows schema number [] rows = []
local_index_rows schema number (x ∷ xs) rows = entry_rows schema number x rows ++ local_index_rows schema (number + 1) xs rows

-- under each key that is no row key of the group's tables stands what the local indexes have there, and nothing else
abbrev pub IsIndexed : Schema → GroupId → Listed → Type 0
IsIndexed schema group listed = (key : List ℕ) → table_of schema group.key key ≡ None
    → row_under listed key ≡ row_under (local_index_rows schema 1 (indexes_of schema) (table_rows schema group listed)) key

-- each row under a row key of the group's tables fits its table and stands under its own key
abbrev pub AreRows : Schema → GroupId → Listed → Type 0
AreRows schema group listed = (key : List ℕ) (n : ℕ) (row : Row) → table_of schema group.key key ≡ Some n → row_under listed key ≡ Some row
    → stands_in schema n (numbered schema.tables n) key row ≡ true

-- what a schema that is declared keeps: at most 64 tables; a root is its own root, and another table has a root that is one, whose
-- groups are scattered where its own are
pub record IsDeclared (schema : Schema) : Type 0 where
  pub most : length schema.tables ≤ 64
  pub roots : (n : ℕ) (t : Table) → numbered schema.tables n ≡ Some t → is_root_table t ≡ true → t.root ≡ n
  pub others : (n : ℕ) (t : Table) → numbered schema.tables n ≡ Some t → is_root_table t ≡ false
      → (r : Table) × (numbered schema.tables t.root ≡ Some r) × (is_root_table r ≡ true) × (t.scatter ≡ r.scatter)

-- the rows that requests put have values that the program can hold
abbrev pub HoldValues : List Cell → Type 0
HoldValues [] = Unit {0}
HoldValues (c ∷ cs) = AreValues c.values × HoldValues cs

abbrev pub PutsValues : Change → Type 0
PutsValues (Put n row) = HoldValues row.cells
PutsValues _ = Unit {0}

abbrev pub PutValues : List Change → Type 0
PutValues [] = Unit {0}
PutValues (c ∷ cs) = PutsValues c × PutValues cs

abbrev pub AllPutValues : List Transaction → Type 0
AllPutValues [] = Unit {0}
AllPutValues (t ∷ ts) = PutValues t.writes × AllPutValues ts

abbrev pub AsksValues : Request → Type 0
AsksValues (Txn transaction) = PutValues transaction.writes
AsksValues (BatchRequest group transactions) = AllPutValues transactions
AsksValues _ = Unit {0}

-- so do all requests with which operations began
abbrev pub AskValues : Usage → List Item → Type 0
AskValues usage tape = (op : OpId) (request : Request) → asked_for usage.meaning tape op ≡ Some request → AsksValues request
