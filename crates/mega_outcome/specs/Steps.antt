-- Each item by the key that it looks at, and what comes of the row that stands there.
use Rattle.std.specs.Prelude.{◌≡◌, ℕ, if◌then◌else◌, false, List, ◌++◌, is_some, is_none, Option, Some, None, Result, Ok, Err}
use Rattle.mega_base.specs.declared.values.Row.{Row}
use Rattle.mega_index.specs.of_entry.declared.content.Write.{Write}
use Rattle.mega_index.specs.of_schema.declared.schema.Table.{Table}
use Rattle.mega_index.specs.of_schema.declared.schema.Schema.{Schema}
use Rattle.mega_index.specs.Rows.{Rows}
use Rattle.mega_index.specs.Cells.{key_values}
use Rattle.mega_index.specs.Fits.{numbered, fits}
use Rattle.mega_outcome.specs.declared.answer.Turn.{Turn}
use Rattle.mega_outcome.specs.declared.answer.Turn.TheVariants.{BadRow}
use Rattle.mega_outcome.specs.declared.answer.Shown.{Shown}
use Rattle.mega_outcome.specs.declared.transaction.RowRef.{RowRef}
use Rattle.mega_outcome.specs.declared.transaction.Check.{Check}
use Rattle.mega_outcome.specs.declared.transaction.Check.TheVariants.{There, Gone, Is}
use Rattle.mega_outcome.specs.declared.transaction.Change.{Change}
use Rattle.mega_outcome.specs.declared.transaction.Change.TheVariants.{Put, Delete, Add}
use Rattle.mega_outcome.specs.declared.transaction.Transaction.{Transaction}
use Rattle.mega_outcome.specs.Places.{◌>>=◌, key_in}
use Rattle.mega_outcome.specs.Checks.{holds, may_be_in, has_values, all_checks}
use Rattle.mega_outcome.specs.Reads.{all_reads}
use Rattle.mega_outcome.specs.Changes.{replaced, delete_at, add_at, all_changes}
use Rattle.mega_outcome.specs.declared.answer.Done.{Done}
use Rattle.mega_outcome.specs.Outcome.{first_read, first_change, first_send, all_sends, longest, unless_large}
use Rattle.mega_outcome.specs.Answers.{is_outside}

-- an answer is no refusal from outside
abbrev pub IsInside : {A : Type 0} → Result A Turn → Type 0
IsInside (Ok x) = Unit {0}
IsInside (Err turn) = is_outside turn ≡ false

-- the row that a check is about
abbrev pub checked_row : Check → RowRef
checked_row (There row) = row
checked_row (Gone row) = row
checked_row (Is row property values) = row

-- the check of what stands there
abbrev pub decided : Schema → ℕ → Check → Option Row → Result (Unit {0}) Turn
decided s i (There row) there = holds i (is_some there)
decided s i (Gone row) there = holds i (is_none there)
decided s i (Is row property values) there =
    if may_be_in (numbered s.tables row.table) property values then holds i (has_values there property values) else Err (BadRow i)

-- the key of a row that is put
abbrev pub put_key : Schema → List ℕ → ℕ → ℕ → Option Table → Row → Result (List ℕ) Turn
put_key s group i n None row = Err (BadRow i)
put_key s group i n (Some t) row = key_in s group i n (key_values t.primary row)

-- the key of the row that is written
abbrev pub changed_key : Schema → List ℕ → ℕ → Change → Result (List ℕ) Turn
changed_key s group i (Put n row) = put_key s group i n (numbered s.tables n) row
changed_key s group i (Delete row) = key_in s group i row.table row.key
changed_key s group i (Add row property by) = key_in s group i row.table row.key

-- a put over what stands there
abbrev pub put_at : Schema → ℕ → ℕ → Row → List ℕ → Option Row → Result (List Write) Turn
put_at s i n row key old = if fits s n row then Ok (replaced s n key old (Some row)) else Err (BadRow i)

-- the write over what stands there
abbrev pub changed_to : Schema → ℕ → Change → List ℕ → Option Row → Result (List Write) Turn
changed_to s i (Put n row) key old = put_at s i n row key old
changed_to s i (Delete row) key old = delete_at s i row.table key old
changed_to s i (Add row property by) key old = add_at s i row.table (numbered s.tables row.table) key property old by

-- what the checks and reads of a transaction give
abbrev pub seen_by : Schema → List ℕ → Transaction → Rows → Result (List (Option Shown)) Turn
seen_by s group txn rows =
    all_checks s group rows 0 txn.checks >>= λ _. all_reads s group rows (first_read txn) txn.reads

-- what was found so far, and what the items that are left come to
abbrev pub with_front : {A : Type 0} → List A → Result (List A) Turn → Result (List A) Turn
with_front front others = others >>= λ more. Ok (front ++ more)

-- what is done with these replies and writes, where the sends fit and no entry is too long
abbrev pub done_with : Schema → List ℕ → Transaction → List (Option Shown) → List Write → Result Done Turn
done_with s group txn replies writes =
    all_sends s (first_send txn) txn.sends >>= λ _.
    unless_large (longest group writes txn.sends) (record { replies = replies; writes = writes; sends = txn.sends })

-- what its writes and sends come to after that
abbrev pub written_by : Schema → List ℕ → Transaction → Rows → List (Option Shown) → Result Done Turn
written_by s group txn rows replies =
    all_changes s group rows (first_change txn) txn.writes >>= λ writes. done_with s group txn replies writes
