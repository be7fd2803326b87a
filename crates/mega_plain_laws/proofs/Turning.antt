-- Why a transaction is turned is a word of answers: the faults of a device are none.
use Rattle.std.proofs.Common.{◌≡◌, ◌||◌, ◌&&◌, ℕ, ◌+◌, nat_lt, not, Bool, true, false, cond, List, [], ◌∷◌, ◌++◌, fold, ℤ, Option, Some, None, Result, Ok, Err}
use Rattle.std.specs.Prelude.{is_none, is_some, ◌+ℤ◌}
use Rattle.std.specs.List.{AllByRecursion, list_any}
use Rattle.std.specs.Result.{is_ok}
use Rattle.mega_base.specs.declared.names.GroupId.{GroupId}
use Rattle.mega_base.specs.declared.values.Kind.{Kind}
use Rattle.mega_base.specs.declared.values.Row.{Row}
use Rattle.mega_base.specs.declared.values.Value.{Value}
use Rattle.mega_entry.specs.declared.content.Send.{Send}
use Rattle.mega_keys.specs.declared.fault.KeyFault.{KeyFault}
use Rattle.mega_schema.specs.declared.schema.Property.{Property}
use Rattle.mega_schema.specs.declared.schema.Schema.{Schema}
use Rattle.mega_schema.specs.declared.schema.Table.{Table}
use Rattle.mega_index.specs.Cells.{is_listed, key_values, values_of}
use Rattle.mega_index.specs.Fits.{fits, group_of, key_of, long_key, numbered}
use Rattle.mega_index.specs.Fitted.{most_bytes, send_fits}
use Rattle.mega_index.specs.Rows.{Rows, same_key, written}
use Rattle.mega_outcome.specs.declared.answer.Batch.{Batch}
use Rattle.mega_outcome.specs.declared.answer.Done.{Done}
use Rattle.mega_outcome.specs.declared.answer.Shown.{Shown}
use Rattle.mega_outcome.specs.declared.answer.Turn.{Turn}
use Rattle.mega_outcome.specs.declared.answer.Turn.TheVariants.{TooLarge}
use Rattle.mega_outcome.specs.declared.transaction.Change.{Change}
use Rattle.mega_outcome.specs.declared.transaction.Change.TheVariants.{Put, Delete, Add}
use Rattle.mega_outcome.specs.declared.transaction.Check.{Check}
use Rattle.mega_outcome.specs.declared.transaction.Check.TheVariants.{There, Gone, Is}
use Rattle.mega_outcome.specs.declared.transaction.RowRef.{RowRef}
use Rattle.mega_outcome.specs.declared.transaction.Transaction.{Transaction}
use Rattle.mega_outcome.specs.Changes.{add_at, add_in, add_to, all_changes, change, delete_at, is_number, number_of, number_value, or_overflow, put_in, replaced, sum_of}
use Rattle.mega_outcome.specs.Checks.{all_checks, check, has_values, holds, may_be_in}
use Rattle.mega_outcome.specs.Outcome.{all_sends, batch_length, batch_outcome, first_change, first_read, first_send, left_out, longest, no_batch, outcome, outcome_in, taken, with_next, with_result}
use Rattle.mega_outcome.specs.Places.{◌>>=◌, key_in, key_in_table, placed, row_in, spelled}
use Rattle.mega_outcome.specs.Reads.{all_reads, read, read_rows}
use Rattle.mega_format_laws.proofs.Each.{either}
use Rattle.mega_plain_laws.specs.Answers.{AreRefused, IsRefused, IsWord}

abbrev pub Words : {X : Type 0} → Result X Turn → Type 0
Words (Ok x) = Unit {0}
Words (Err turn) = IsWord turn

bind_words : {X Y : Type 0} (r : Result X Turn) (f : X → Result Y Turn) → Words r → ((x : X) → Words (f x)) → Words (r >>= f)
bind_words (Ok x) f w h = h x
bind_words (Err turn) f w h = w

-- ---- keys and rows

spelled_words : (i : ℕ) (key : Result (List ℕ) KeyFault) → Words (spelled i key)
spelled_words i (Ok key) = tt
spelled_words i (Err fault) = tt

placed_words : (i : ℕ) (group : List ℕ) (own key : Result (List ℕ) KeyFault) → Words (placed i group own key)
placed_words i group (Err fault) key = tt
placed_words i group (Ok own) key = either Words (same_key own group) (spelled i key) _ (spelled_words i key) tt

table_words : (s : Schema) (group : List ℕ) (i n : ℕ) (o : Option Table) (values : List Value) → Words (key_in_table s group i n o values)
table_words s group i n None values = tt
table_words s group i n (Some t) values = placed_words i group (group_of s n t values) (key_of s n t values)

key_words : (s : Schema) (group : List ℕ) (i n : ℕ) (values : List Value) → Words (key_in s group i n values)
key_words s group i n values = table_words s group i n (numbered s.tables n) values

row_words : (s : Schema) (group : List ℕ) (rows : Rows) (i n : ℕ) (values : List Value) → Words (row_in s group rows i n values)
row_words s group rows i n values = bind_words (key_in s group i n values) (λ found. Ok (rows found)) (key_words s group i n values) (λ found. tt)

-- ---- checks and reads

holds_words : (i : ℕ) (b : Bool) → Words (holds i b)
holds_words i true = tt
holds_words i false = tt

check_words : (s : Schema) (group : List ℕ) (rows : Rows) (i : ℕ) (one : Check) → Words (check s group rows i one)
check_words s group rows i (There row) = bind_words (row_in s group rows i row.table row.key) (λ there. holds i (is_some there)) (row_words s group rows i row.table row.key) (λ there. holds_words i (is_some there))
check_words s group rows i (Gone row) = bind_words (row_in s group rows i row.table row.key) (λ there. holds i (is_none there)) (row_words s group rows i row.table row.key) (λ there. holds_words i (is_none there))
check_words s group rows i (Is row property values) =
    bind_words (row_in s group rows i row.table row.key) _ (row_words s group rows i row.table row.key)
    (λ there. either Words (may_be_in (numbered s.tables row.table) property values) (holds i (has_values there property values)) _ (holds_words i (has_values there property values)) tt)

checks_words : (s : Schema) (group : List ℕ) (rows : Rows) (i : ℕ) (checks : List Check) → Words (all_checks s group rows i checks)
checks_words s group rows i [] = tt
checks_words s group rows i (one ∷ checks) = bind_words (check s group rows i one) (λ done. all_checks s group rows (i + 1) checks) (check_words s group rows i one) (λ done. checks_words s group rows (i + 1) checks)

read_words : (s : Schema) (group : List ℕ) (rows : Rows) (i : ℕ) (row : RowRef) → Words (read s group rows i row)
read_words s group rows i row = bind_words (row_in s group rows i row.table row.key) _ (row_words s group rows i row.table row.key) (λ there. tt)

reads_words : (s : Schema) (group : List ℕ) (rows : Rows) (i : ℕ) (refs : List RowRef) → Words (all_reads s group rows i refs)
reads_words s group rows i [] = tt
reads_words s group rows i (row ∷ refs) =
    bind_words (read s group rows i row) (λ one. all_reads s group rows (i + 1) refs >>= λ others. Ok (one ∷ others)) (read_words s group rows i row)
    (λ one. bind_words (all_reads s group rows (i + 1) refs) (λ others. Ok (one ∷ others)) (reads_words s group rows (i + 1) refs) (λ others. tt))

pub rows_words : (s : Schema) (group : GroupId) (refs : List RowRef) (rows : Rows) → Words (read_rows s group refs rows)
rows_words s group refs rows = reads_words s group.key rows 0 refs

-- ---- changes and sends

put_words : (s : Schema) (group : List ℕ) (rows : Rows) (i n : ℕ) (o : Option Table) (row : Row) → Words (put_in s group rows i n o row)
put_words s group rows i n None row = tt
put_words s group rows i n (Some t) row =
    bind_words (key_in s group i n (key_values t.primary row)) _ (key_words s group i n (key_values t.primary row))
    (λ key. either Words (fits s n row) (Ok (replaced s n key (rows key) (Some row))) _ tt tt)

delete_words : (s : Schema) (i n : ℕ) (key : List ℕ) (old : Option Row) → Words (delete_at s i n key old)
delete_words s i n key None = tt
delete_words s i n key (Some old) = tt

overflow_words : (i : ℕ) (o : Option Value) → Words (or_overflow i o)
overflow_words i None = tt
overflow_words i (Some v) = tt

sum_words : (i : ℕ) (kind : Kind) (o : Option ℤ) (long : Bool) (by : ℤ) → Words (sum_of i kind o long by)
sum_words i kind None long by = tt
sum_words i kind (Some z) true by = tt
sum_words i kind (Some z) false by = overflow_words i (number_value kind (z +ℤ by))

add_to_words : (s : Schema) (i n : ℕ) (t : Table) (key : List ℕ) (property : ℕ) (kind : Kind) (old : Option Row) (by : ℤ) → Words (add_to s i n t key property kind old by)
add_to_words s i n t key property kind None by = tt
add_to_words s i n t key property kind (Some row) by =
    bind_words (sum_of i kind (number_of kind (values_of row property)) (is_some (long_key s n t row)) by) _ (sum_words i kind (number_of kind (values_of row property)) (is_some (long_key s n t row)) by) (λ v. tt)

add_in_words : (s : Schema) (i n : ℕ) (t : Table) (key : List ℕ) (property : ℕ) (p : Option Property) (old : Option Row) (by : ℤ) → Words (add_in s i n t key property p old by)
add_in_words s i n t key property None old by = tt
add_in_words s i n t key property (Some p) old by =
    either Words (is_number p.kind p.need && not (is_listed t.primary property)) (add_to s i n t key property p.kind old by) _ (add_to_words s i n t key property p.kind old by) tt

add_words : (s : Schema) (i n : ℕ) (o : Option Table) (key : List ℕ) (property : ℕ) (old : Option Row) (by : ℤ) → Words (add_at s i n o key property old by)
add_words s i n None key property old by = tt
add_words s i n (Some t) key property old by = add_in_words s i n t key property (numbered t.properties property) old by

change_words : (s : Schema) (group : List ℕ) (rows : Rows) (i : ℕ) (one : Change) → Words (change s group rows i one)
change_words s group rows i (Put n row) = put_words s group rows i n (numbered s.tables n) row
change_words s group rows i (Delete row) = bind_words (key_in s group i row.table row.key) (λ key. delete_at s i row.table key (rows key)) (key_words s group i row.table row.key) (λ key. delete_words s i row.table key (rows key))
change_words s group rows i (Add row property by) =
    bind_words (key_in s group i row.table row.key) (λ key. add_at s i row.table (numbered s.tables row.table) key property (rows key) by) (key_words s group i row.table row.key)
    (λ key. add_words s i row.table (numbered s.tables row.table) key property (rows key) by)

changes_words : (s : Schema) (group : List ℕ) (rows : Rows) (i : ℕ) (changes : List Change) → Words (all_changes s group rows i changes)
changes_words s group rows i [] = tt
changes_words s group rows i (one ∷ changes) =
    bind_words (change s group rows i one) (λ writes. all_changes s group (written writes rows) (i + 1) changes >>= λ others. Ok (writes ++ others)) (change_words s group rows i one)
    (λ writes. bind_words (all_changes s group (written writes rows) (i + 1) changes) (λ others. Ok (writes ++ others)) (changes_words s group (written writes rows) (i + 1) changes) (λ others. tt))

sends_words : (s : Schema) (i : ℕ) (sends : List Send) → Words (all_sends s i sends)
sends_words s i [] = tt
sends_words s i (send ∷ sends) = either Words (send_fits s send) (all_sends s (i + 1) sends) _ (sends_words s (i + 1) sends) tt

-- ---- transactions and batches

done_words : (s : Schema) (group : List ℕ) (txn : Transaction) (rows : Rows) → Words (outcome_in s group txn rows)
done_words s group txn rows =
    bind_words (all_checks s group rows 0 txn.checks) _ (checks_words s group rows 0 txn.checks) (λ checked.
    bind_words (all_reads s group rows (first_read txn) txn.reads) _ (reads_words s group rows (first_read txn) txn.reads) (λ replies.
    bind_words (all_changes s group rows (first_change txn) txn.writes) _ (changes_words s group rows (first_change txn) txn.writes) (λ writes.
    bind_words (all_sends s (first_send txn) txn.sends) _ (sends_words s (first_send txn) txn.sends) (λ sent.
    either Words (nat_lt most_bytes (longest group writes txn.sends)) (Err (TooLarge (longest group writes txn.sends))) (Ok (record { replies = replies; writes = writes; sends = txn.sends })) tt tt))))

pub outcome_words : (s : Schema) (txn : Transaction) (rows : Rows) → Words (outcome s txn rows)
outcome_words s txn rows = done_words s txn.group.key txn rows

abbrev pub AreWords : List (Result (List (Option Shown)) Turn) → Type 0
AreWords results = AllByRecursion Words results

one_more : (results : List (Result (List (Option Shown)) Turn)) (one : Result (List (Option Shown)) Turn) → AreWords results → Words one → AreWords (results ++ one ∷ [])
one_more [] one h w = (w, tt)
one_more (first ∷ results) one h w = (h.0, one_more results one h.1 w)

next_words : (b : Batch) (result : Result Done Turn) → AreWords b.results → Words result → AreWords (with_result b result).results
next_words b (Err turn) h w = one_more b.results (Err turn) h w
next_words b (Ok done) h w = by (nat_lt most_bytes (batch_length (taken b done)))
  where
    by : (t : Bool) → AreWords (cond t (left_out b (TooLarge (batch_length (taken b done)))) (taken b done)).results
    by true = one_more b.results (Err (TooLarge (batch_length (taken b done)))) h tt
    by false = one_more b.results (Ok done.replies) h tt

all_words : (s : Schema) (group : List ℕ) (rows : Rows) (txns : List Transaction) (b : Batch) → AreWords b.results → AreWords (fold (with_next s group rows) b txns).results
all_words s group rows [] b h = h
all_words s group rows (txn ∷ txns) b h = all_words s group rows txns (with_next s group rows b txn) (next_words b (outcome_in s group txn (written b.writes rows)) h (done_words s group txn (written b.writes rows)))

pub batch_words : (s : Schema) (group : GroupId) (txns : List Transaction) (rows : Rows) → AreWords (batch_outcome s group txns rows).results
batch_words s group txns rows = all_words s group.key rows txns no_batch tt

-- where none is taken
one_refused : (one : Result (List (Option Shown)) Turn) (rest : Bool) → Words one → (is_ok one || rest) ≡ false → IsRefused one
one_refused (Ok replies) rest w none = cc
one_refused (Err turn) rest w none = w

rest_refused : (a b : Bool) → (a || b) ≡ false → b ≡ false
rest_refused true b h = cc
rest_refused false b h = h

pub all_refused : (results : List (Result (List (Option Shown)) Turn)) → AreWords results → list_any is_ok results ≡ false → AreRefused results
all_refused [] w none = tt
all_refused (one ∷ results) w none = (one_refused one (list_any is_ok results) w.0 none, all_refused results w.1 (rest_refused (is_ok one) (list_any is_ok results) none))
