-- What a transaction of a group comes to over the versions of the rows at a position, and over the entries through it; and the rows of
-- its tables.
use Rattle.std.specs.Prelude.{◌≡◌, ℕ, List}
use Rattle.mega_base.specs.declared.names.GroupId.{GroupId}
use Rattle.mega_schema.specs.declared.schema.Schema.{Schema}
use Rattle.mega_disk.specs.VersionMaps.{Versions}
use Rattle.mega_outcome.specs.declared.transaction.Transaction.{Transaction}
use Rattle.mega_outcome.specs.Answers.{rows_at as versions_at}
use Rattle.mega_outcome.specs.Outcome.{batch_outcome, outcome}
use Rattle.mega_rules.specs.Operations.{Now}
use Rattle.mega_rules.specs.Acting.{listed_at, rows_at}
use Rattle.mega_view.specs.Small.{IsSmall}
use Rattle.mega_view.specs.Shows.{Shows}

-- both are the same, under a schema that a text can declare
pub record Sees (schema : Schema) (version : Versions) (group : GroupId) (p : ℕ) (now : Now) : Type 0 where
  pub alone : (txn : Transaction) → txn.group ≡ group → outcome schema txn (versions_at version p) ≡ outcome schema txn (rows_at now group p)
  pub batched : (own : GroupId) (txns : List Transaction) → own ≡ group → batch_outcome schema own txns (versions_at version p) ≡ batch_outcome schema own txns (rows_at now group p)
  pub small : IsSmall schema
  pub shows : Shows schema group (versions_at version p) (listed_at now group p)
