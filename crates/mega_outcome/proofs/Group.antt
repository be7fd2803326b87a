-- What a transaction comes to depends on the rows of its group alone.
use Rattle.std.proofs.Common.{◌≡◌, ◌∙◌, ap, refl, ℕ, ◌+◌, cond, List, [], ◌∷◌, ◌++◌}
use Rattle.std.specs.Prelude.{Option, Some, None, Result, Ok, Err, is_some, is_none, if◌then◌else◌, option_map, fold}
use Rattle.mega_base.specs.declared.names.GroupId.{GroupId}
use Rattle.mega_base.specs.declared.values.Value.{Value}
use Rattle.mega_base.specs.declared.values.Row.{Row}
use Rattle.mega_index.specs.of_entry.declared.content.Write.{Write}
use Rattle.mega_index.specs.of_schema.declared.schema.Table.{Table}
use Rattle.mega_index.specs.of_schema.declared.schema.Schema.{Schema}
use Rattle.mega_index.specs.Cells.{key_values}
use Rattle.mega_index.specs.Fits.{fits, numbered}
use Rattle.mega_index.specs.Rows.{Rows, changed, same_key, written}
use Rattle.mega_outcome.specs.declared.answer.Batch.{Batch}
use Rattle.mega_outcome.specs.declared.answer.Done.{Done}
use Rattle.mega_outcome.specs.declared.answer.Shown.{Shown}
use Rattle.mega_outcome.specs.declared.answer.Turn.{Turn}
use Rattle.mega_outcome.specs.declared.answer.Turn.TheVariants.{BadRow}
use Rattle.mega_outcome.specs.declared.transaction.Change.{Change}
use Rattle.mega_outcome.specs.declared.transaction.Change.TheVariants.{Put, Delete, Add}
use Rattle.mega_outcome.specs.declared.transaction.Check.{Check}
use Rattle.mega_outcome.specs.declared.transaction.Check.TheVariants.{There, Gone, Is}
use Rattle.mega_outcome.specs.declared.transaction.RowRef.{RowRef}
use Rattle.mega_outcome.specs.declared.transaction.Transaction.{Transaction}
use Rattle.mega_outcome.specs.Places.{◌>>=◌, key_in, row_in}
use Rattle.mega_outcome.specs.Checks.{holds, may_be_in, has_values, check, all_checks}
use Rattle.mega_outcome.specs.Reads.{shown, read, all_reads, read_rows}
use Rattle.mega_outcome.specs.Changes.{replaced, delete_at, add_at, put_in, change, all_changes}
use Rattle.mega_outcome.specs.Outcome.{first_read, first_change, first_send, all_sends, longest, unless_large, outcome_in, no_batch, with_result, with_next, with_all}
use Rattle.mega_outcome.specs.Group.{AgreeIn}

-- two ways to go on that agree where the first part is taken
then_same : {A B : Type 0} (m : Result A Turn) (f g : A → Result B Turn) → ((a : A) → m ≡ Ok a → f a ≡ g a) → (m >>= f) ≡ (m >>= g)
then_same (Ok a) f g h = h a refl
then_same (Err turn) f g h = refl

there : Option Row → Result (Option Row) Turn
there row = Ok row

row_in_same : (s : Schema) (group : List ℕ) (rows other : Rows) → AgreeIn s group rows other → (i n : ℕ) (values : List Value) → row_in s group rows i n values ≡ row_in s group other i n values
unfolding there
row_in_same s group rows other agree i n values =
    then_same (key_in s group i n values) (λ found. there (rows found)) (λ found. there (other found)) (λ key at. ap there (agree i n values key at))

check_same : (s : Schema) (group : List ℕ) (rows other : Rows) → AgreeIn s group rows other → (i : ℕ) (c : Check) → check s group rows i c ≡ check s group other i c
check_same s group rows other agree i (There row) = ap (λ (m : Result (Option Row) Turn). m >>= λ there. holds i (is_some there)) (row_in_same s group rows other agree i row.table row.key)
check_same s group rows other agree i (Gone row) = ap (λ (m : Result (Option Row) Turn). m >>= λ there. holds i (is_none there)) (row_in_same s group rows other agree i row.table row.key)
check_same s group rows other agree i (Is row property values) =
    ap (λ (m : Result (Option Row) Turn). m >>= λ there. if may_be_in (numbered s.tables row.table) property values then holds i (has_values there property values) else Err (BadRow i))
    (row_in_same s group rows other agree i row.table row.key)

checks_same : (s : Schema) (group : List ℕ) (rows other : Rows) → AgreeIn s group rows other → (i : ℕ) (cs : List Check) → all_checks s group rows i cs ≡ all_checks s group other i cs
checks_same s group rows other agree i [] = refl
checks_same s group rows other agree i (c ∷ cs) =
    ap (λ (m : Result (Unit {0}) Turn). m >>= λ _. all_checks s group rows (i + 1) cs) (check_same s group rows other agree i c)
    ∙ ap (λ (m : Result (Unit {0}) Turn). check s group other i c >>= λ _. m) (checks_same s group rows other agree (i + 1) cs)

pub reads_same : (s : Schema) (group : List ℕ) (rows other : Rows) → AgreeIn s group rows other → (i : ℕ) (rs : List RowRef) → all_reads s group rows i rs ≡ all_reads s group other i rs
reads_same s group rows other agree i [] = refl
reads_same s group rows other agree i (r ∷ rs) =
    ap (λ (m : Result (Option Row) Turn). (m >>= λ there. Ok (option_map (shown r.table) there)) >>= λ one. all_reads s group rows (i + 1) rs >>= λ others. Ok (one ∷ others)) (row_in_same s group rows other agree i r.table r.key)
    ∙ ap (λ (m : Result (List (Option Shown)) Turn). read s group other i r >>= λ one. m >>= λ others. Ok (one ∷ others)) (reads_same s group rows other agree (i + 1) rs)

-- a write changes both rows alike
written_at : (writes : List Write) (rows other : Rows) (key : List ℕ) → rows key ≡ other key → written writes rows key ≡ written writes other key
written_at [] rows other key h = h
written_at (w ∷ ws) rows other key h = written_at ws (changed rows w) (changed other w) key (ap (λ (r : Option Row). cond (same_key w.key key) w.row r) h)

still : (s : Schema) (group : List ℕ) (rows other : Rows) → AgreeIn s group rows other → (writes : List Write) → AgreeIn s group (written writes rows) (written writes other)
still s group rows other agree writes i n values key at = written_at writes rows other key (agree i n values key at)

put_same : (s : Schema) (group : List ℕ) (rows other : Rows) → AgreeIn s group rows other → (i n : ℕ) (o : Option Table) (row : Row) → put_in s group rows i n o row ≡ put_in s group other i n o row
put_same s group rows other agree i n None row = refl
put_same s group rows other agree i n (Some t) row =
    then_same (key_in s group i n (key_values t.primary row))
    (λ key. if fits s n row then Ok (replaced s n key (rows key) (Some row)) else Err (BadRow i))
    (λ key. if fits s n row then Ok (replaced s n key (other key) (Some row)) else Err (BadRow i))
    (λ key at. ap (λ (old : Option Row). if fits s n row then Ok (replaced s n key old (Some row)) else Err (BadRow i)) (agree i n (key_values t.primary row) key at))

change_same : (s : Schema) (group : List ℕ) (rows other : Rows) → AgreeIn s group rows other → (i : ℕ) (c : Change) → change s group rows i c ≡ change s group other i c
change_same s group rows other agree i (Put n row) = put_same s group rows other agree i n (numbered s.tables n) row
change_same s group rows other agree i (Delete row) =
    then_same (key_in s group i row.table row.key) (λ key. delete_at s i row.table key (rows key)) (λ key. delete_at s i row.table key (other key))
    (λ key at. ap (λ (old : Option Row). delete_at s i row.table key old) (agree i row.table row.key key at))
change_same s group rows other agree i (Add row property by) =
    then_same (key_in s group i row.table row.key)
    (λ key. add_at s i row.table (numbered s.tables row.table) key property (rows key) by)
    (λ key. add_at s i row.table (numbered s.tables row.table) key property (other key) by)
    (λ key at. ap (λ (old : Option Row). add_at s i row.table (numbered s.tables row.table) key property old by) (agree i row.table row.key key at))

changes_same : (s : Schema) (group : List ℕ) (rows other : Rows) → AgreeIn s group rows other → (i : ℕ) (cs : List Change) → all_changes s group rows i cs ≡ all_changes s group other i cs
changes_same s group rows other agree i [] = refl
changes_same s group rows other agree i (c ∷ cs) =
    ap (λ (m : Result (List Write) Turn). m >>= λ writes. all_changes s group (written writes rows) (i + 1) cs >>= λ others. Ok (writes ++ others)) (change_same s group rows other agree i c)
    ∙ then_same (change s group other i c)
    (λ writes. all_changes s group (written writes rows) (i + 1) cs >>= λ others. Ok (writes ++ others))
    (λ writes. all_changes s group (written writes other) (i + 1) cs >>= λ others. Ok (writes ++ others))
    (λ writes at. ap (λ (m : Result (List Write) Turn). m >>= λ others. Ok (writes ++ others)) (changes_same s group (written writes rows) (written writes other) (still s group rows other agree writes) (i + 1) cs))

pub outcome_same : (s : Schema) (group : List ℕ) (txn : Transaction) (rows other : Rows) → AgreeIn s group rows other → outcome_in s group txn rows ≡ outcome_in s group txn other
outcome_same s group txn rows other agree =
    ap (λ (m : Result (Unit {0}) Turn). m >>= λ _. read_on rows) (checks_same s group rows other agree 0 txn.checks)
    ∙ ap (λ (m : Result Done Turn). all_checks s group other 0 txn.checks >>= λ _. m)
    (ap (λ (m : Result (List (Option Shown)) Turn). m >>= λ replies. write_on rows replies) (reads_same s group rows other agree (first_read txn) txn.reads)
    ∙ then_same (all_reads s group other (first_read txn) txn.reads) (write_on rows) (write_on other)
    (λ replies at. ap (λ (m : Result (List Write) Turn). m >>= λ writes. send_on replies writes) (changes_same s group rows other agree (first_change txn) txn.writes)))
  where
    send_on : List (Option Shown) → List Write → Result Done Turn
    send_on replies writes =
        all_sends s (first_send txn) txn.sends >>= λ _.
        unless_large (longest group writes txn.sends) (record { replies = replies; writes = writes; sends = txn.sends })

    write_on : Rows → List (Option Shown) → Result Done Turn
    write_on rows replies = all_changes s group rows (first_change txn) txn.writes >>= λ writes. send_on replies writes

    read_on : Rows → Result Done Turn
    read_on rows = all_reads s group rows (first_read txn) txn.reads >>= λ replies. write_on rows replies

next_same : (s : Schema) (group : List ℕ) (rows other : Rows) → AgreeIn s group rows other → (b : Batch) (txn : Transaction) → with_next s group rows b txn ≡ with_next s group other b txn
next_same s group rows other agree b txn =
    ap (with_result b) (outcome_same s group txn (written b.writes rows) (written b.writes other) (still s group rows other agree b.writes))

folds_same : (s : Schema) (group : List ℕ) (rows other : Rows) → AgreeIn s group rows other → (b : Batch) (txns : List Transaction) → fold (with_next s group rows) b txns ≡ fold (with_next s group other) b txns
folds_same s group rows other agree b [] = refl
folds_same s group rows other agree b (txn ∷ txns) =
    ap (λ (b : Batch). fold (with_next s group rows) b txns) (next_same s group rows other agree b txn)
    ∙ folds_same s group rows other agree (with_next s group other b txn) txns

pub batch_same : (s : Schema) (group : List ℕ) (txns : List Transaction) (rows other : Rows) → AgreeIn s group rows other → with_all s group txns rows ≡ with_all s group txns other
batch_same s group txns rows other agree = folds_same s group rows other agree no_batch txns

pub read_rows_same : (s : Schema) (group : GroupId) (refs : List RowRef) (rows other : Rows) → AgreeIn s group.key rows other → read_rows s group refs rows ≡ read_rows s group refs other
read_rows_same s group refs rows other agree = reads_same s group.key rows other agree 0 refs
