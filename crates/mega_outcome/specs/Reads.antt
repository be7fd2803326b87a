-- What reads show of the rows.
use Rattle.std.specs.Prelude.{ℕ, ◌+◌, List, [], ◌∷◌, filter_map, option_map, Option, Some, None, Result, Ok}
use Rattle.mega_base.specs.declared.names.GroupId.{GroupId}
use Rattle.mega_base.specs.declared.values.Row.{Row}
use Rattle.mega_index.specs.of_schema.declared.schema.Schema.{Schema}
use Rattle.mega_index.specs.Rows.{Rows, Listed}
use Rattle.mega_index.specs.Fitted.{table_of}
use Rattle.mega_outcome.specs.declared.answer.Turn.{Turn}
use Rattle.mega_outcome.specs.declared.answer.Shown.{Shown}
use Rattle.mega_outcome.specs.declared.transaction.RowRef.{RowRef}
use Rattle.mega_outcome.specs.Places.{◌>>=◌, row_in}

-- a row of the table, as it is shown
abbrev pub shown : ℕ → Row → Shown
shown n row = record { table = n; row = row }

-- item i: the row, or none where it is not there
abbrev pub read : Schema → List ℕ → Rows → ℕ → RowRef → Result (Option Shown) Turn
read s group rows i row = row_in s group rows i row.table row.key >>= λ there. Ok (option_map (shown row.table) there)

-- items from i on
abbrev pub all_reads : Schema → List ℕ → Rows → ℕ → List RowRef → Result (List (Option Shown)) Turn
all_reads s group rows i [] = Ok []
all_reads s group rows i (r ∷ rs) = read s group rows i r >>= λ one. all_reads s group rows (i + 1) rs >>= λ others. Ok (one ∷ others)

-- the rows that a read names, in its order
abbrev pub read_rows : Schema → GroupId → List RowRef → Rows → Result (List (Option Shown)) Turn
read_rows s group refs rows = all_reads s group.key rows 0 refs

-- the row, where its key is a row key of this table
abbrev pub shown_in : Option ℕ → Row → Option (Option Shown)
shown_in None row = None
shown_in (Some n) row = Some (Some (shown n row))

-- all rows of the group's tables, in order of key
abbrev pub all_rows : Schema → GroupId → Listed → List (Option Shown)
all_rows s group listed = filter_map (λ (one : List ℕ × Row). shown_in (table_of s group.key one.0) one.1) listed
