-- Over rows that fit, a transaction and a batch show rows that fit, and write such.
use Rattle.std.proofs.Common.{◌≡◌, ℕ, ◌+◌, Bool, true, false, cond, if◌then◌else◌, List, [], ◌∷◌, fold, nat_lt, refl, sym, ap, ◌∙◌, subst, Option, Some, None, Result, Ok, Err}
use Rattle.std.specs.Prelude.{option_map}
use Rattle.std.proofs.lemmas.List.Sums.{fold-append}
use Rattle.mega_base.specs.declared.values.Row.{Row}
use Rattle.mega_base.specs.declared.values.Value.{Value}
use Rattle.mega_schema.specs.declared.schema.Schema.{Schema}
use Rattle.mega_schema.specs.declared.schema.Table.{Table}
use Rattle.mega_index.specs.Fits.{fits, fits_in, key_of, numbered}
use Rattle.mega_index.specs.Fitted.{most_bytes}
use Rattle.mega_index.specs.Rows.{Rows, changed, written}
use Rattle.mega_outcome.specs.declared.answer.Batch.{Batch}
use Rattle.mega_outcome.specs.declared.answer.Done.{Done}
use Rattle.mega_outcome.specs.declared.answer.Shown.{Shown}
use Rattle.mega_outcome.specs.declared.answer.Turn.{Turn}
use Rattle.mega_outcome.specs.declared.answer.Turn.TheVariants.{TooLarge}
use Rattle.mega_outcome.specs.declared.transaction.RowRef.{RowRef}
use Rattle.mega_outcome.specs.declared.transaction.Transaction.{Transaction}
use Rattle.mega_outcome.specs.Changes.{all_changes}
use Rattle.mega_outcome.specs.Checks.{all_checks}
use Rattle.mega_outcome.specs.Outcome.{all_sends, batch_length, first_change, first_read, first_send, left_out, longest, no_batch, outcome_in, taken, unless_large, with_next, with_result}
use Rattle.mega_outcome.specs.Places.{◌>>=◌, key_in, key_in_table, row_in}
use Rattle.mega_outcome.specs.Reads.{all_reads, read, shown}
use Rattle.mega_tape_laws.specs.Growing.{RowsFit}
use Rattle.mega_tape_laws.specs.Indexed.{IsDeclared}
use Rattle.mega_tape_laws.proofs.Fitting.{changes_fit as rows_fit}
use Rattle.mega_tape_laws.proofs.Replacing.{bind_turn, key_in_at}
use Rattle.mega_tape_laws.proofs.RowKeys.{standing}
use Rattle.mega_format_laws.specs.Rounds.{Each}
use Rattle.mega_format_laws.proofs.Each.{each_both}
use Rattle.mega_shown_laws.specs.Fitting.{FitsTable}
use Rattle.mega_shown_laws.proofs.Writes.{AreFitting, Fitting, changes_fit}

-- ---- what is read

-- the table whose key an item names
pub record Named (s : Schema) (n : ℕ) (values : List Value) (key : List ℕ) : Type 0 where
  pub table : Table
  pub at : numbered s.tables n ≡ Some table
  pub own : key_of s n table values ≡ Ok key

pub key_named : (s : Schema) (group : List ℕ) (i n : ℕ) (values : List Value) (key : List ℕ) → key_in s group i n values ≡ Ok key → Named s n values key
key_named s group i n values key h = by (numbered s.tables n) refl h
  where
    by : (o : Option Table) → numbered s.tables n ≡ o → key_in_table s group i n o values ≡ Ok key → Named s n values key
    by None at g = absurd (cc)
    by (Some t) at g = record { table = t; at = at; own = (key_in_at s group i n t values key at h).1 }

-- a row that stands under a key of its table fits it
pub row_fits_there : (s : Schema) (rows : Rows) → RowsFit s rows → (n : ℕ) (values : List Value) (key : List ℕ) (row : Row) → Named s n values key → rows key ≡ Some row → fits s n row ≡ true
row_fits_there s rows fit n values key row name there =
    ap (λ o. fits_in s n o row) name.at ∙ (standing s n name.table key row (fit n name.table values key row name.at name.own there)).fits

read_fits : (s : Schema) (group : List ℕ) (rows : Rows) → RowsFit s rows → (i : ℕ) (r : RowRef) (one : Option Shown) → read s group rows i r ≡ Ok one → FitsTable s one
read_fits s group rows fit i r one h =
    let there = bind_turn (row_in s group rows i r.table r.key) (λ there. Ok (option_map (shown r.table) there)) one h in
    let key = bind_turn (key_in s group i r.table r.key) (λ found. Ok (rows found)) there.0 there.1 in
    let stood : rows key.0 ≡ there.0 = (let e = key.2 in cc) in
    subst (FitsTable s) (let e = there.2 in cc) (by key.0 (key_named s group i r.table r.key key.0 key.1) there.0 stood)
  where
    by : (key : List ℕ) → Named s r.table r.key key → (o : Option Row) → rows key ≡ o → FitsTable s (option_map (shown r.table) o)
    by key name None stood = tt
    by key name (Some row) stood = row_fits_there s rows fit r.table r.key key row name stood

pub reads_fit : (s : Schema) (group : List ℕ) (rows : Rows) → RowsFit s rows → (i : ℕ) (refs : List RowRef) (replies : List (Option Shown)) → all_reads s group rows i refs ≡ Ok replies → Each (FitsTable s) replies
reads_fit s group rows fit i [] replies h = let same : [] ≡ replies = cc in subst (Each (FitsTable s)) same tt
reads_fit s group rows fit i (r ∷ refs) replies h =
    let a = bind_turn (read s group rows i r) (λ one. all_reads s group rows (i + 1) refs >>= λ others. Ok (one ∷ others)) replies h in
    let b = bind_turn (all_reads s group rows (i + 1) refs) (λ others. Ok (a.0 ∷ others)) replies a.2 in
    let same : a.0 ∷ b.0 ≡ replies = (let e = b.2 in cc) in
    subst (Each (FitsTable s)) same (read_fits s group rows fit i r a.0 a.1, reads_fit s group rows fit (i + 1) refs b.0 b.1)

-- ---- transactions

-- what a transaction that is taken read and wrote
pub record Parts (s : Schema) (group : List ℕ) (rows : Rows) (transaction : Transaction) (done : Done) : Type 0 where
  pub reads : all_reads s group rows (first_read transaction) transaction.reads ≡ Ok done.replies
  pub changes : all_changes s group rows (first_change transaction) transaction.writes ≡ Ok done.writes

pub parts_of : (s : Schema) (group : List ℕ) (rows : Rows) (transaction : Transaction) (done : Done) → outcome_in s group transaction rows ≡ Ok done → Parts s group rows transaction done
parts_of s group rows transaction done h =
    let checks = bind_turn (all_checks s group rows 0 transaction.checks) (λ _. all_reads s group rows (first_read transaction) transaction.reads >>= λ replies.
    all_changes s group rows (first_change transaction) transaction.writes >>= λ writes. all_sends s (first_send transaction) transaction.sends >>= λ _.
    unless_large (longest group writes transaction.sends) (record { replies = replies; writes = writes; sends = transaction.sends })) done h in
    let reads = bind_turn (all_reads s group rows (first_read transaction) transaction.reads) (λ replies.
    all_changes s group rows (first_change transaction) transaction.writes >>= λ writes. all_sends s (first_send transaction) transaction.sends >>= λ _.
    unless_large (longest group writes transaction.sends) (record { replies = replies; writes = writes; sends = transaction.sends })) done checks.2 in
    let changes = bind_turn (all_changes s group rows (first_change transaction) transaction.writes) (λ writes. all_sends s (first_send transaction) transaction.sends >>= λ _.
    unless_large (longest group writes transaction.sends) (record { replies = reads.0; writes = writes; sends = transaction.sends })) done reads.2 in
    let sends = bind_turn (all_sends s (first_send transaction) transaction.sends) (λ _.
    unless_large (longest group changes.0 transaction.sends) (record { replies = reads.0; writes = changes.0; sends = transaction.sends })) done changes.2 in
    let same = small (nat_lt most_bytes (longest group changes.0 transaction.sends)) (longest group changes.0 transaction.sends) (record { replies = reads.0; writes = changes.0; sends = transaction.sends }) done sends.2 in
    record { reads = reads.1 ∙ ap (λ (d : Done). Ok d.replies) same; changes = changes.1 ∙ ap (λ (d : Done). Ok d.writes) same }
  where
    small : (b : Bool) (n : ℕ) (d e : Done) → cond {A = Result Done Turn} b (Err (TooLarge n)) (Ok d) ≡ Ok e → d ≡ e
    small true n d e g = absurd (cc)
    small false n d e g = cc

-- ---- batches

-- what is shown of one transaction of a batch
abbrev pub ShowsFitting : Schema → Result (List (Option Shown)) Turn → Type 0
ShowsFitting s (Ok replies) = Each (FitsTable s) replies
ShowsFitting s (Err turn) = Unit {0}

pub record BatchFits (s : Schema) (rows : Rows) (b : Batch) : Type 0 where
  pub rows_fit : RowsFit s (written b.writes rows)
  pub writes_fit : AreFitting s b.writes
  pub shows : Each (ShowsFitting s) b.results

module _ (s : Schema) (d : IsDeclared s) (group : List ℕ) (rows : Rows) where
  next_fits : (b : Batch) (transaction : Transaction) → BatchFits s rows b → BatchFits s rows (with_next s group rows b transaction)
  next_fits b transaction before = by (outcome_in s group transaction (written b.writes rows)) refl
    where
      left : (turn : Turn) → BatchFits s rows (left_out b turn)
      left turn = record { rows_fit = before.rows_fit; writes_fit = before.writes_fit; shows = each_both (ShowsFitting s) b.results (Err turn ∷ []) before.shows (tt, tt) }

      more : (done : Done) → outcome_in s group transaction (written b.writes rows) ≡ Ok done → BatchFits s rows (taken b done)
      more done is =
          let parts = parts_of s group (written b.writes rows) transaction done is in
          record {
            rows_fit = subst (RowsFit s) (sym (fold-append changed rows b.writes done.writes))
                (rows_fit s d group (written b.writes rows) before.rows_fit (first_change transaction) transaction.writes done.writes parts.changes);
            writes_fit = each_both (Fitting s) b.writes done.writes before.writes_fit (changes_fit s d group (written b.writes rows) before.rows_fit (first_change transaction) transaction.writes done.writes parts.changes);
            shows = each_both (ShowsFitting s) b.results (Ok done.replies ∷ []) before.shows (reads_fit s group (written b.writes rows) before.rows_fit (first_read transaction) transaction.reads done.replies parts.reads, tt);
          }

      by : (r : Result Done Turn) → outcome_in s group transaction (written b.writes rows) ≡ r → BatchFits s rows (with_result b r)
      by (Err turn) is = left turn
      by (Ok done) is = tested (nat_lt most_bytes (batch_length (taken b done)))
        where
          tested : (t : Bool) → BatchFits s rows (if t then left_out b (TooLarge (batch_length (taken b done))) else taken b done)
          tested true = left (TooLarge (batch_length (taken b done)))
          tested false = more done is

  each_fits : (transactions : List Transaction) (b : Batch) → BatchFits s rows b → BatchFits s rows (fold (with_next s group rows) b transactions)
  each_fits [] b before = before
  each_fits (t ∷ ts) b before = each_fits ts (with_next s group rows b t) (next_fits b t before)

  pub batch_fits : (transactions : List Transaction) → RowsFit s rows → BatchFits s rows (fold (with_next s group rows) no_batch transactions)
  batch_fits transactions fit = each_fits transactions no_batch (record { rows_fit = fit; writes_fit = tt; shows = tt })
