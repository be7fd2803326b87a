-- The rows that an answer shows, and that they fit the tables that they name.
use Rattle.std.specs.Prelude.{◌≡◌, true, List, [], flat_map, Option, Some, None, Result, Ok, Err}
use Rattle.mega_schema.specs.declared.schema.Schema.{Schema}
use Rattle.mega_index.specs.Fits.{fits}
use Rattle.mega_outcome.specs.declared.answer.Answer.{Answer}
use Rattle.mega_outcome.specs.declared.answer.Answer.TheVariants as answers
use Rattle.mega_outcome.specs.declared.answer.Shown.{Shown}
use Rattle.mega_outcome.specs.declared.answer.Turn.{Turn}

-- what a read shows: no row, or one that fits the table that it names
abbrev pub FitsTable : Schema → Option Shown → Type 0
FitsTable schema None = Unit {0}
FitsTable schema (Some shown) = fits schema shown.table shown.row ≡ true

-- what the reads of one transaction of a batch show
abbrev pub replies_of : Result (List (Option Shown)) Turn → List (Option Shown)
replies_of (Ok replies) = replies
replies_of (Err turn) = []

abbrev pub rows_of : Answer → List (Option Shown)
rows_of (answers.Committed position replies) = replies
rows_of (answers.Batched position results) = flat_map replies_of results
rows_of (answers.AllTurned results) = flat_map replies_of results
rows_of (answers.Read position rows) = rows
rows_of _ = []
