-- Entries each of which a store makes: what a transaction or a batch comes to on the rows before it, or what fits of a handler's writes.
use Rattle.std.specs.Prelude.{◌≡◌, ℕ, List, [], ◌∷◌, Some, Ok}
use Rattle.mega_base.specs.declared.names.GroupId.{GroupId}
use Rattle.mega_entry.specs.declared.content.Write.{Write}
use Rattle.mega_entry.specs.declared.content.Content.{Content}
use Rattle.mega_schema.specs.declared.schema.Schema.{Schema}
use Rattle.mega_index.specs.Rows.{Rows, written}
use Rattle.mega_index.specs.Fitted.{table_of, fitted_writes}
use Rattle.mega_outcome.specs.declared.answer.Done.{Done}
use Rattle.mega_outcome.specs.declared.transaction.Transaction.{Transaction}
use Rattle.mega_outcome.specs.Outcome.{batch_outcome, outcome}
use Rattle.mega_tape_laws.specs.Indexed.{AllPutValues, PutValues}

-- the writes of an entry on the rows before it: none; those of a transaction of the group, or of a batch, that puts values of the program; or
-- what fits of some writes by one who sees the rows of the group's tables
pub data IsMade (s : Schema) (group : GroupId) (rows : Rows) (writes : List Write) : Type 0 where
  nothing : writes ≡ [] → IsMade s group rows writes
  by_transaction : (transaction : Transaction) (done : Done) → PutValues transaction.writes → transaction.group ≡ group
      → outcome s transaction rows ≡ Ok done → writes ≡ done.writes → IsMade s group rows writes
  by_batch : (transactions : List Transaction) → AllPutValues transactions
      → writes ≡ (batch_outcome s group transactions rows).writes → IsMade s group rows writes
  by_handler : (seen : Rows) → ((key : List ℕ) (n : ℕ) → table_of s group.key key ≡ Some n → seen key ≡ rows key) → (wanted : List Write)
      → writes ≡ fitted_writes s group.key seen wanted → IsMade s group rows writes

-- each entry is made on the rows that those before it leave
abbrev pub AreMade : Schema → GroupId → Rows → List Content → Type 0
AreMade s group rows [] = Unit {0}
AreMade s group rows (entry ∷ entries) = IsMade s group rows entry.writes × AreMade s group (written entry.writes rows) entries
