-- What holds of the rows after any entries of a log, where it holds of none and each transaction and each handler keeps it.
use Rattle.std.proofs.Common.{◌≡◌, ℕ, zero, suc, cond, Bool, true, false, if◌then◌else◌, List, [], ◌∷◌, ◌++◌, length, take, slice_get, fold, is_some, nat_lt, refl, sym, ap, ◌∙◌, subst, Option, Some, None, Result, Ok, Err}
use Rattle.std.proofs.lemmas.List.Sums.{fold-append}
use Rattle.std.proofs.lemmas.Map.Entries.{lookup-filter-keys}
use Rattle.mega_base.specs.declared.names.GroupId.{GroupId}
use Rattle.mega_base.specs.declared.names.OpId.{OpId}
use Rattle.mega_cluster.specs.declared.cluster.Cluster.{Cluster}
use Rattle.mega_entry.specs.declared.content.Content.{Content}
use Rattle.mega_entry.specs.declared.content.Write.{Write}
use Rattle.mega_entry.specs.Entries.{entry_text}
use Rattle.mega_schema.specs.declared.schema.Schema.{Schema}
use Rattle.mega_index.specs.Rows.{Rows, Listed, same_key, row_under, no_rows, changed, written, after, list_after}
use Rattle.mega_index.specs.Fitted.{table_of, fitted_writes, most_bytes}
use Rattle.mega_handler.specs.Effects.{Effect, handled, entry_handling}
use Rattle.mega_handler.specs.Named.{effect_by, meaning}
use Rattle.mega_outcome.specs.declared.answer.Turn.{Turn}
use Rattle.mega_outcome.specs.declared.answer.Turn.TheVariants.{TooLarge}
use Rattle.mega_outcome.specs.declared.answer.Done.{Done}
use Rattle.mega_outcome.specs.declared.answer.Batch.{Batch}
use Rattle.mega_outcome.specs.declared.request.Request.TheVariants.{Txn, Batch as BatchRequest}
use Rattle.mega_outcome.specs.declared.transaction.Transaction.{Transaction}
use Rattle.mega_outcome.specs.Places.{◌>>=◌}
use Rattle.mega_outcome.specs.Checks.{all_checks}
use Rattle.mega_outcome.specs.Reads.{all_reads}
use Rattle.mega_outcome.specs.Changes.{all_changes}
use Rattle.mega_outcome.specs.Outcome.{all_sends, longest, unless_large, first_read, first_change, first_send, outcome_in, no_batch, left_out, taken, batch_length, with_result, with_next}
use Rattle.mega_promises.specs.of_transcript.declared.item.Item.{Item}
use Rattle.mega_promises.specs.of_rules.Acting.{table_rows}
use Rattle.mega_promises.specs.Promises.{asked_for, log_of}
use Rattle.mega_tape_laws.specs.Writes.{LawfulWrites, OwnEntry, Usage, enters, fills, handles, runs, runs_all}
use Rattle.mega_tape_laws.proofs.Serial.{own_entry}
use Rattle.mega_index.proofs.KeyLists.{key_is, after_is}
use Rattle.mega_tape_laws.proofs.Replacing.{bind_turn}

-- what holds of no rows and is kept by each transaction that is asked for and by what a handler writes
pub record Keeps (s : Schema) (group : List ℕ) (P : Rows → Type 0) (Good : Transaction → Type 0) (AllGood : List Transaction → Type 0) : Type 0 where
  pub none : P no_rows
  pub first : (t : Transaction) (ts : List Transaction) → AllGood (t ∷ ts) → Good t
  pub others : (t : Transaction) (ts : List Transaction) → AllGood (t ∷ ts) → AllGood ts
  pub changes : (rows : Rows) → P rows → (t : Transaction) → Good t → (writes : List Write) → all_changes s group rows (first_change t) t.writes ≡ Ok writes → P (written writes rows)
  pub fitted : (rows seen : Rows) → P rows → (writes : List Write) → ((k : List ℕ) (n : ℕ) → table_of s group k ≡ Some n → seen k ≡ rows k) → P (written (fitted_writes s group seen writes) rows)

-- ---- transactions and batches

module _ (s : Schema) (group : List ℕ) (P : Rows → Type 0) (Good : Transaction → Type 0) (AllGood : List Transaction → Type 0) (keeps : Keeps s group P Good AllGood) where
  outcome_keeps : (rows : Rows) → P rows → (transaction : Transaction) (done : Done) → Good transaction → outcome_in s group transaction rows ≡ Ok done → P (written done.writes rows)
  outcome_keeps rows kept transaction done good h =
      let checks = bind_turn (all_checks s group rows 0 transaction.checks) (λ _. all_reads s group rows (first_read transaction) transaction.reads >>= λ replies.
      all_changes s group rows (first_change transaction) transaction.writes >>= λ writes. all_sends s (first_send transaction) transaction.sends >>= λ _.
      unless_large (longest group writes transaction.sends) (record { replies = replies; writes = writes; sends = transaction.sends })) done h in
      let reads = bind_turn (all_reads s group rows (first_read transaction) transaction.reads) (λ replies.
      all_changes s group rows (first_change transaction) transaction.writes >>= λ writes. all_sends s (first_send transaction) transaction.sends >>= λ _.
      unless_large (longest group writes transaction.sends) (record { replies = replies; writes = writes; sends = transaction.sends })) done checks.2 in
      let changes = bind_turn (all_changes s group rows (first_change transaction) transaction.writes) (λ writes. all_sends s (first_send transaction) transaction.sends >>= λ _.
      unless_large (longest group writes transaction.sends) (record { replies = reads.0; writes = writes; sends = transaction.sends })) done reads.2 in
      let sends = bind_turn (all_sends s (first_send transaction) transaction.sends) (λ _.
      unless_large (longest group changes.0 transaction.sends) (record { replies = reads.0; writes = changes.0; sends = transaction.sends })) done changes.2 in
      let same = small (nat_lt most_bytes (longest group changes.0 transaction.sends)) (longest group changes.0 transaction.sends) (record { replies = reads.0; writes = changes.0; sends = transaction.sends }) done sends.2 in
      subst (λ (d : Done). P (written d.writes rows)) same (keeps.changes rows kept transaction good changes.0 changes.1)
    where
      small : (b : Bool) (n : ℕ) (d e : Done) → cond {A = Result Done Turn} b (Err (TooLarge n)) (Ok d) ≡ Ok e → d ≡ e
      small true n d e g = absurd (cc)
      small false n d e g = cc

  next_keeps : (rows : Rows) (b : Batch) → P (written b.writes rows) → (transaction : Transaction) → Good transaction → P (written (with_next s group rows b transaction).writes rows)
  next_keeps rows b kept transaction good = by (outcome_in s group transaction (written b.writes rows)) refl
    where
      by : (r : Result Done Turn) → outcome_in s group transaction (written b.writes rows) ≡ r → P (written (with_result b r).writes rows)
      by (Err turn) is = kept
      by (Ok done) is = tested (nat_lt most_bytes (batch_length (taken b done)))
        where
          more : P (written (b.writes ++ done.writes) rows)
          more = subst P (sym (fold-append changed rows b.writes done.writes)) (outcome_keeps (written b.writes rows) kept transaction done good is)

          tested : (t : Bool) → P (written (if t then left_out b (TooLarge (batch_length (taken b done))) else taken b done).writes rows)
          tested true = kept
          tested false = more

  batch_keeps : (rows : Rows) (transactions : List Transaction) (b : Batch) → P (written b.writes rows) → AllGood transactions → P (written (fold (with_next s group rows) b transactions).writes rows)
  batch_keeps rows [] b kept good = kept
  batch_keeps rows (t ∷ ts) b kept good = batch_keeps rows ts (with_next s group rows b t) (next_keeps rows b kept t (keeps.first t ts good)) (keeps.others t ts good)

-- ---- the rows that a handler sees

seen_rows : (s : Schema) (group : GroupId) (listed : Listed) (k : List ℕ) (n : ℕ) → table_of s group.key k ≡ Some n → row_under (table_rows s group listed) k ≡ row_under listed k
seen_rows s group listed k n at =
    lookup-filter-keys (λ other. same_key k other) (λ key. is_some (table_of s group.key key)) true (λ other same. ap (λ key. is_some (table_of s group.key key)) (sym (key_is k other same)) ∙ ap is_some at) listed

-- ---- entries and logs

module _ (s : Schema) (usage : Usage) (tape : List Item) (group : GroupId) (P : Rows → Type 0) (Good : Transaction → Type 0) (AllGood : List Transaction → Type 0) (keeps : Keeps s group.key P Good AllGood)
    (one : (op : OpId) (transaction : Transaction) → asked_for usage.meaning tape op ≡ Some (Txn transaction) → Good transaction)
    (all : (op : OpId) (transactions : List Transaction) → asked_for usage.meaning tape op ≡ Some (BatchRequest group transactions) → AllGood transactions) where
  entry_keeps : (op : OpId) (below : List Content) (e : Content) → OwnEntry s usage tape op group below e → P (after below no_rows) → P (written e.writes (after below no_rows))
  entry_keeps op below e (fills is) kept = subst (λ (x : Content). P (written x.writes (after below no_rows))) (sym is) kept
  entry_keeps op below e (runs transaction done asked at comes is) kept =
      subst (λ (x : Content). P (written x.writes (after below no_rows))) (sym is)
      (outcome_keeps s group.key P Good AllGood keeps (after below no_rows) kept transaction done (one op transaction asked) (ap (λ (g : GroupId). outcome_in s g.key transaction (after below no_rows)) (sym at) ∙ comes))
  entry_keeps op below e (runs_all transactions asked is) kept =
      subst (λ (x : Content). P (written x.writes (after below no_rows))) (sym is)
      (batch_keeps s group.key P Good AllGood keeps (after below no_rows) transactions no_batch kept (all op transactions asked))
  entry_keeps op below e (enters message sent posted asked known found to says fresh is) kept =
      subst (λ (x : Content). P (written x.writes (after below no_rows))) (sym is) kept
  entry_keeps op below e (handles message moment asked oldest is) kept =
      subst (λ (x : Content). P (written x.writes (after below no_rows))) (sym is)
      (tested (nat_lt most_bytes (length (entry_text (entry_handling op message.name effect)))))
    where
      makes : Effect
      makes = effect_by (meaning ((usage.handlers) moment) message.queue) message (table_rows s group (list_after below []))

      effect : Effect
      effect = handled s group (table_rows s group (list_after below [])) (effect_by (meaning ((usage.handlers) moment) message.queue) message (table_rows s group (list_after below [])))

      seen : Rows
      seen = row_under (table_rows s group (list_after below []))

      tested : (b : Bool) → P (written (if b then entry_handling op message.name ([], []) else entry_handling op message.name effect).writes (after below no_rows))
      tested true = kept
      tested false =
          keeps.fitted (after below no_rows) seen kept makes.0
          (λ k n at. seen_rows s group (list_after below []) k n at ∙ (λ i. after_is below [] tt i k))

take_next : {X : Type 0} (xs : List X) (n : ℕ) (x : X) → slice_get xs n ≡ Some x → take (suc n) xs ≡ take n xs ++ x ∷ []
take_next [] n x h = cc
take_next (y ∷ ys) zero x h = let same : y ≡ x = cc in ap (λ z. z ∷ []) same
take_next (y ∷ ys) (suc n) x h = ap (λ zs. y ∷ zs) (take_next ys n x h)

take_end : {X : Type 0} (xs : List X) (n : ℕ) → slice_get xs n ≡ None → take (suc n) xs ≡ take n xs
take_end [] zero h = refl
take_end [] (suc n) h = refl
take_end (y ∷ ys) zero h = cc
take_end (y ∷ ys) (suc n) h = ap (λ zs. y ∷ zs) (take_end ys n h)

after_next : (log : List Content) (e : Content) (rows : Rows) → after (log ++ e ∷ []) rows ≡ written e.writes (after log rows)
after_next [] e rows = refl
after_next (d ∷ log) e rows = after_next log e (written d.writes rows)

pub log_keeps : (c : Cluster) (usage : Usage) (tape : List Item) (group : GroupId) (P : Rows → Type 0) (Good : Transaction → Type 0) (AllGood : List Transaction → Type 0) → LawfulWrites c usage tape → Keeps c.schema group.key P Good AllGood
    → ((op : OpId) (transaction : Transaction) → asked_for usage.meaning tape op ≡ Some (Txn transaction) → Good transaction)
    → ((op : OpId) (transactions : List Transaction) → asked_for usage.meaning tape op ≡ Some (BatchRequest group transactions) → AllGood transactions)
    → (p : ℕ) → P (after (take p (log_of tape group)) no_rows)
log_keeps c usage tape group P Good AllGood l keeps one all zero = keeps.none
log_keeps c usage tape group P Good AllGood l keeps one all (suc p) = by (slice_get (log_of tape group) p) refl (log_keeps c usage tape group P Good AllGood l keeps one all p)
  where
    by : (o : Option Content) → slice_get (log_of tape group) p ≡ o → P (after (take p (log_of tape group)) no_rows) → P (after (take (suc p) (log_of tape group)) no_rows)
    by None is kept = subst (λ log. P (after log no_rows)) (sym (take_end (log_of tape group) p is)) kept
    by (Some e) is kept =
        let own = own_entry c usage tape l group p e is in
        subst (λ log. P (after log no_rows)) (sym (take_next (log_of tape group) p e is))
        (subst P (sym (after_next (take p (log_of tape group)) e no_rows)) (entry_keeps c.schema usage tape group P Good AllGood keeps one all own.0 (take p (log_of tape group)) e own.1 kept))
