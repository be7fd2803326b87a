-- Entries that write rows of their own group alone.
use Rattle.std.specs.Prelude.{◌≡◌, ℕ, List, Some, Ok}
use Rattle.mega_base.specs.declared.names.GroupId.{GroupId}
use Rattle.mega_base.specs.declared.values.Row.{Row}
use Rattle.mega_base.specs.declared.values.Value.{Value}
use Rattle.mega_entry.specs.declared.content.Content.{Content}
use Rattle.mega_entry.specs.declared.content.Write.{Write}
use Rattle.mega_schema.specs.declared.schema.Schema.{Schema}
use Rattle.mega_index.specs.Fitted.{table_of}
use Rattle.mega_outcome.specs.Places.{key_in}
use Rattle.mega_run_laws.specs.Justified.{Each}

-- no item of another group can name the key; and where a row is written under a row key of one of the group's tables, an item of the
-- group can name it
pub record WritesOwn (schema : Schema) (group : GroupId) (write : Write) : Type 0 where
  pub apart : (other : GroupId) (i n : ℕ) (values : List Value) → key_in schema other.key i n values ≡ Ok write.key → other ≡ group
  pub named : (n : ℕ) (row : Row) → table_of schema group.key write.key ≡ Some n → write.row ≡ Some row → (values : List Value) × (key_in schema group.key 0 n values ≡ Ok write.key)

-- an entry at a position of the group writes rows of the group alone
abbrev pub IsOwn : Schema → GroupId → Content → Type 0
IsOwn schema group entry = Each (WritesOwn schema group) entry.writes
