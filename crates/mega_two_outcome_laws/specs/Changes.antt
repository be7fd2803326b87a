-- The parts of the change that a line tells: what their checks and writes do with the rows of their groups.
use Rattle.std.specs.Prelude.{ℕ, List, [], ◌∷◌, ◌++◌, is_ok, Option, Some, None, Result, Ok, Err}
use Rattle.serde_json.specs.Data.{Data}
use Rattle.mega_entry.specs.declared.content.Write.{Write}
use Rattle.mega_schema.specs.declared.schema.Schema.{Schema}
use Rattle.mega_index.specs.Rows.{written}
use Rattle.mega_outcome.specs.declared.answer.Turn.{Turn}
use Rattle.mega_outcome.specs.declared.transaction.Check.{Check}
use Rattle.mega_outcome.specs.declared.transaction.Check.TheVariants.{There}
use Rattle.mega_outcome.specs.declared.transaction.Change.{Change}
use Rattle.mega_outcome.specs.declared.transaction.Change.TheVariants.{Put, Delete, Add}
use Rattle.mega_outcome.specs.declared.transaction.Transaction.{Transaction}
use Rattle.mega_outcome.specs.Checks.{all_checks}
use Rattle.mega_outcome.specs.Changes.{all_changes}
use Rattle.mega_schedule.specs.Events.{object_of}
use Rattle.mega_schedule.specs.Rows.{each_in}
use Rattle.mega_two_laws.specs.Parts.{Part, Rows}
use Rattle.mega_two_driver.specs.Fits.{own_of}
use Rattle.mega_two_driver.specs.Begins.{parts_in}

-- that each row is there which the writes delete
abbrev pub deleted : List Change → List Check
deleted [] = []
deleted (Put n row ∷ changes) = deleted changes
deleted (Delete row ∷ changes) = There row ∷ deleted changes
deleted (Add row property by ∷ changes) = deleted changes

-- the rows behind writes that can be made
abbrev pub rows_after : Rows → Result (List Write) Turn → Option Rows
rows_after rows (Ok writes) = Some (written writes rows)
rows_after rows (Err turn) = None

-- a part by its own transaction: its checks are true where each holds and each row is there that it deletes, and its writes make of rows what
-- the transaction makes of them
abbrev pub part_by : Transaction → Schema → Part
part_by own s = record {
  group = own.group.key;
  is_true = λ rows. is_ok (all_checks s own.group.key rows 0 (own.checks ++ deleted own.writes));
  written = λ rows. rows_after rows (all_changes s own.group.key rows 0 own.writes);
}

-- a part that a line tells: the transaction that a node reads of it alone
abbrev pub part_of : Schema → Data → Part
part_of s part = part_by (own_of s part) s

-- the parts of a line; none where it tells none
abbrev pub parts_told : Schema → Result Data ℕ → List Part
parts_told s (Err reason) = []
parts_told s (Ok d) = each_in (part_of s) (parts_in d)

abbrev pub parts_of : Schema → List ℕ → List Part
parts_of s line = parts_told s (object_of line)
