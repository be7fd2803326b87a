-- What the text of an answer asks of it beyond what types hold, of the answers that show no rows of a read: marks in order of group, what is found, and why one is turned.
use Rattle.std.specs.Prelude.{◌≡◌, ℕ, ◌||◌, Bool, true, false, List, [], ◌∷◌, Option, Some, None, Result, Ok, Err}
use Rattle.std.specs.List.{AllByRecursion}
use Rattle.mega_base.specs.declared.values.Kind.{Kind}
use Rattle.mega_base.specs.declared.values.Row.{Row}
use Rattle.mega_base.specs.declared.values.Value.{Value}
use Rattle.mega_keys.specs.Fit.{has_kind, key_kinds}
use Rattle.mega_schema.specs.declared.schema.Property.{Property}
use Rattle.mega_schema.specs.declared.schema.Schema.{Schema}
use Rattle.mega_schema.specs.declared.schema.Table.{Table}
use Rattle.mega_schema.specs.Shaping.{shape_of}
use Rattle.mega_index.specs.declared.found.Found.{Found}
use Rattle.mega_index.specs.Fits.{cells_fit, numbered}
use Rattle.mega_outcome.specs.declared.answer.Answer.{Answer}
use Rattle.mega_outcome.specs.declared.answer.Answer.TheVariants as answers
use Rattle.mega_outcome.specs.declared.answer.Shown.{Shown}
use Rattle.mega_outcome.specs.declared.answer.Turn.{Turn}
use Rattle.mega_outcome.specs.declared.answer.Turn.TheVariants.{OtherGroup, BadRow, CheckFailed, NoRow, Overflow, TooLarge}
use Rattle.mega_transcript.specs.Named.{names_property, names_table}
use Rattle.mega_transcript.specs.PlainAnswers.{IsElsewhere}
use Rattle.mega_transcript.specs.PlainRows.{are_marks, is_alone}

-- one value for each place, of its kind
abbrev pub AreOfKinds : List Kind → List Value → Type 0
AreOfKinds [] [] = Unit {0}
AreOfKinds [] (value ∷ values) = ⊥
AreOfKinds (kind ∷ kinds) [] = ⊥
AreOfKinds (kind ∷ kinds) (value ∷ values) = (has_kind kind value ≡ true) × AreOfKinds kinds values

-- what is found is of a table: its key, and the properties that the index stores
abbrev pub IsFoundIn : Schema → ℕ → Option Table → List Value → Row → Type 0
IsFoundIn schema n None key stored = ⊥
IsFoundIn schema n (Some table) key stored = (cells_fit table.properties 0 stored.cells ≡ true) × AreOfKinds (key_kinds (shape_of schema n table)) key

abbrev pub IsFound : Schema → Found → Type 0
IsFound schema found = IsFoundIn schema found.table (numbered schema.tables found.table) found.key found.stored

-- why a transaction, a read or a find is turned: the faults of a device are no such reason
abbrev pub IsWord : Turn → Type 0
IsWord (OtherGroup item) = Unit {0}
IsWord (BadRow item) = Unit {0}
IsWord (CheckFailed item) = Unit {0}
IsWord (NoRow item) = Unit {0}
IsWord (Overflow item) = Unit {0}
IsWord (TooLarge bytes) = Unit {0}
IsWord _ = ⊥

-- of a batch that is turned as a whole each transaction is
abbrev pub IsRefused : Result (List (Option Shown)) Turn → Type 0
IsRefused (Ok replies) = ⊥
IsRefused (Err turn) = IsWord turn

abbrev pub AreRefused : List (Result (List (Option Shown)) Turn) → Type 0
AreRefused results = AllByRecursion IsRefused results

abbrev pub IsFit : Schema → Answer → Type 0
IsFit schema (answers.Turned turn) = IsWord turn
IsFit schema (answers.AllTurned results) = AreRefused results
IsFit schema (answers.Found marks rows) = ((are_marks marks || is_alone marks) ≡ true) × AllByRecursion (IsFound schema) rows
IsFit schema (answers.Refreshed marks) = are_marks marks ≡ true
IsFit schema (answers.NothingToDo marks) = are_marks marks ≡ true
IsFit schema (answers.Busy count) = count ≡ 64
IsFit schema (answers.NotHere kind) = IsElsewhere kind
IsFit schema _ = Unit {0}

-- answers that show rows of a read
abbrev pub shows_rows : Answer → Bool
shows_rows (answers.Committed position replies) = true
shows_rows (answers.Batched position results) = true
shows_rows (answers.Read position rows) = true
shows_rows _ = false

-- each table and each property of a schema is told by its name alone, which is a text
pub record IsNamed (schema : Schema) : Type 0 where
  pub tables : (n : ℕ) (table : Table) → numbered schema.tables n ≡ Some table → names_table schema.tables n table.name ≡ true
  pub properties : (n : ℕ) (table : Table) (k : ℕ) (property : Property) → numbered schema.tables n ≡ Some table → numbered table.properties k ≡ Some property
      → names_property table.properties k property.name ≡ true
