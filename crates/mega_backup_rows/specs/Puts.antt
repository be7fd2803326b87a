-- The put that brings back one row, where it fits a table of the group.
use Rattle.std.specs.Prelude.{ℕ, if◌then◌else◌, List, [], ◌∷◌, Option, Some, None}
use Rattle.mega_base.specs.declared.names.GroupId.{GroupId}
use Rattle.mega_base.specs.declared.values.Row.{Row}
use Rattle.mega_schema.specs.declared.schema.Schema.{Schema}
use Rattle.mega_index.specs.Fits.{numbered, stands_in}
use Rattle.mega_index.specs.Fitted.{table_of}
use Rattle.mega_outcome.specs.declared.transaction.Change.TheVariants.{Put}
use Rattle.mega_outcome.specs.declared.transaction.Transaction.{Transaction}

-- the put of one row
abbrev pub put_of : GroupId → ℕ → Row → Transaction
put_of group n row = record { group = group; checks = []; reads = []; writes = Put n row ∷ []; sends = [] }

-- that of a row under a row key of the group, where it fits the table and stands under its own key
abbrev pub put_at : Schema → GroupId → Option ℕ → List ℕ → Row → Option Transaction
put_at s group None key row = None
put_at s group (Some n) key row = if stands_in s n (numbered s.tables n) key row then Some (put_of group n row) else None

abbrev pub put_in : Schema → GroupId → List ℕ → Row → Option Transaction
put_in s group key row = put_at s group (table_of s group.key key) key row
