-- Entries that a store makes keep rows and index rows together.
use Rattle.std.proofs.Common.{◌≡◌, ℕ, zero, suc, ◌≤◌, cond, Bool, true, false, if◌then◌else◌, List, [], ◌∷◌, ◌++◌, length, take, fold, nat_lt, refl, sym, ap, ◌∙◌, subst, Result, Ok, Err}
use Rattle.std.proofs.lemmas.List.Sums.{fold-append}
use Rattle.mega_base.specs.declared.names.GroupId.{GroupId}
use Rattle.mega_entry.specs.declared.content.Write.{Write}
use Rattle.mega_entry.specs.declared.content.Content.{Content}
use Rattle.mega_schema.specs.declared.schema.Schema.{Schema}
use Rattle.mega_index.specs.Rows.{Rows, changed, written, after}
use Rattle.mega_index.specs.Fitted.{most_bytes}
use Rattle.mega_outcome.specs.declared.answer.Turn.{Turn}
use Rattle.mega_outcome.specs.declared.answer.Turn.TheVariants.{TooLarge}
use Rattle.mega_outcome.specs.declared.answer.Done.{Done}
use Rattle.mega_outcome.specs.declared.answer.Batch.{Batch}
use Rattle.mega_outcome.specs.declared.transaction.Transaction.{Transaction}
use Rattle.mega_outcome.specs.Places.{◌>>=◌}
use Rattle.mega_outcome.specs.Checks.{all_checks}
use Rattle.mega_outcome.specs.Reads.{all_reads}
use Rattle.mega_outcome.specs.Changes.{all_changes}
use Rattle.mega_outcome.specs.Outcome.{all_sends, longest, unless_large, first_read, first_change, first_send, outcome_in, no_batch, left_out, taken, batch_length, with_result, with_next}
use Rattle.mega_tape_laws.specs.Indexed.{AllPutValues, PutValues}
use Rattle.mega_tape_laws.proofs.Replacing.{bind_turn}
use Rattle.mega_tape_laws.proofs.IndexKept.{IndexExact}
use Rattle.mega_tape_laws.proofs.IndexSteps.{changes_kept, fitted_kept}
use Rattle.mega_backup_laws.specs.Made.{IsMade, AreMade, nothing, by_transaction, by_batch, by_handler}

-- the writes of an outcome are those of its changes
changes_of : (s : Schema) (group : List ℕ) (rows : Rows) (t : Transaction) (done : Done) → outcome_in s group t rows ≡ Ok done → all_changes s group rows (first_change t) t.writes ≡ Ok done.writes
changes_of s group rows t done h =
    let checks = bind_turn (all_checks s group rows 0 t.checks) (λ _. all_reads s group rows (first_read t) t.reads >>= λ replies.
    all_changes s group rows (first_change t) t.writes >>= λ writes. all_sends s (first_send t) t.sends >>= λ _.
    unless_large (longest group writes t.sends) (record { replies = replies; writes = writes; sends = t.sends })) done h in
    let reads = bind_turn (all_reads s group rows (first_read t) t.reads) (λ replies.
    all_changes s group rows (first_change t) t.writes >>= λ writes. all_sends s (first_send t) t.sends >>= λ _.
    unless_large (longest group writes t.sends) (record { replies = replies; writes = writes; sends = t.sends })) done checks.2 in
    let changes = bind_turn (all_changes s group rows (first_change t) t.writes) (λ writes. all_sends s (first_send t) t.sends >>= λ _.
    unless_large (longest group writes t.sends) (record { replies = reads.0; writes = writes; sends = t.sends })) done reads.2 in
    let sends = bind_turn (all_sends s (first_send t) t.sends) (λ _.
    unless_large (longest group changes.0 t.sends) (record { replies = reads.0; writes = changes.0; sends = t.sends })) done changes.2 in
    changes.1 ∙ ap (λ (d : Done). Ok d.writes) (small (nat_lt most_bytes (longest group changes.0 t.sends)) (longest group changes.0 t.sends) (record { replies = reads.0; writes = changes.0; sends = t.sends }) done sends.2)
  where
    small : (b : Bool) (n : ℕ) (d e : Done) → cond {A = Result Done Turn} b (Err (TooLarge n)) (Ok d) ≡ Ok e → d ≡ e
    small true n d e g = absurd (cc)
    small false n d e g = cc

module _ (s : Schema) (most : length s.tables ≤ 64) (group : GroupId) where
  outcome_kept : (rows : Rows) → IndexExact s group.key rows → (t : Transaction) (done : Done) → PutValues t.writes → outcome_in s group.key t rows ≡ Ok done → IndexExact s group.key (written done.writes rows)
  outcome_kept rows kept t done held h = changes_kept s most group.key rows kept (first_change t) t.writes done.writes held (changes_of s group.key rows t done h)

  next_kept : (rows : Rows) (b : Batch) → IndexExact s group.key (written b.writes rows) → (t : Transaction) → PutValues t.writes → IndexExact s group.key (written (with_next s group.key rows b t).writes rows)
  next_kept rows b kept t held = by (outcome_in s group.key t (written b.writes rows)) refl
    where
      by : (r : Result Done Turn) → outcome_in s group.key t (written b.writes rows) ≡ r → IndexExact s group.key (written (with_result b r).writes rows)
      by (Err turn) is = kept
      by (Ok done) is = tested (nat_lt most_bytes (batch_length (taken b done)))
        where
          more : IndexExact s group.key (written (b.writes ++ done.writes) rows)
          more = subst (IndexExact s group.key) (sym (fold-append changed rows b.writes done.writes)) (outcome_kept (written b.writes rows) kept t done held is)

          tested : (t : Bool) → IndexExact s group.key (written (if t then left_out b (TooLarge (batch_length (taken b done))) else taken b done).writes rows)
          tested true = kept
          tested false = more

  batch_kept : (rows : Rows) (ts : List Transaction) (b : Batch) → IndexExact s group.key (written b.writes rows) → AllPutValues ts → IndexExact s group.key (written (fold (with_next s group.key rows) b ts).writes rows)
  batch_kept rows [] b kept held = kept
  batch_kept rows (t ∷ ts) b kept held = batch_kept rows ts (with_next s group.key rows b t) (next_kept rows b kept t held.0) held.1

  made_kept : (rows : Rows) → IndexExact s group.key rows → (writes : List Write) → IsMade s group rows writes → IndexExact s group.key (written writes rows)
  made_kept rows kept writes (nothing none) = subst (λ (ws : List Write). IndexExact s group.key (written ws rows)) (sym none) kept
  made_kept rows kept writes (by_transaction t done held at comes is) =
      subst (λ (ws : List Write). IndexExact s group.key (written ws rows)) (sym is)
      (outcome_kept rows kept t done held (ap (λ (g : GroupId). outcome_in s g.key t rows) (sym at) ∙ comes))
  made_kept rows kept writes (by_batch ts held is) =
      subst (λ (ws : List Write). IndexExact s group.key (written ws rows)) (sym is) (batch_kept rows ts no_batch kept held)
  made_kept rows kept writes (by_handler seen agree wanted is) =
      subst (λ (ws : List Write). IndexExact s group.key (written ws rows)) (sym is) (fitted_kept s most group.key wanted rows seen kept agree)

  pub entries_kept : (entries : List Content) (q : ℕ) (rows : Rows) → IndexExact s group.key rows → AreMade s group rows entries → IndexExact s group.key (after (take q entries) rows)
  entries_kept [] zero rows kept made = kept
  entries_kept [] (suc q) rows kept made = kept
  entries_kept (e ∷ entries) zero rows kept made = kept
  entries_kept (e ∷ entries) (suc q) rows kept made = entries_kept entries q (written e.writes rows) (made_kept rows kept e.writes made.0) made.1
