-- What an operation's own entry writes, it writes under keys of its group.
use Rattle.std.proofs.Common.{◌≡◌, inl, inr, ℕ, ◌+◌, cond, Bool, true, false, if◌then◌else◌, List, [], ◌∷◌, ◌++◌, length, fold, is_none, nat_lt, refl, sym, ap, ◌∙◌, subst, Option, Some, None, Result, Ok, Err}
use Rattle.mega_base.specs.declared.names.GroupId.{GroupId}
use Rattle.mega_base.specs.declared.names.OpId.{OpId}
use Rattle.mega_base.specs.declared.values.Row.{Row}
use Rattle.mega_entry.specs.declared.content.Content.{Content}
use Rattle.mega_entry.specs.declared.content.Write.{Write}
use Rattle.mega_entry.specs.Entries.{entry_text}
use Rattle.mega_schema.specs.declared.schema.Table.{Table}
use Rattle.mega_schema.specs.declared.schema.Schema.{Schema}
use Rattle.mega_index.specs.Rows.{Rows, Listed, same_key, row_under, no_rows, written, after, list_after}
use Rattle.mega_index.specs.Cells.{key_values}
use Rattle.mega_index.specs.Fits.{group_of, numbered, stands_in}
use Rattle.mega_index.specs.Entries.{local_entries}
use Rattle.mega_index.specs.LocalWrites.{fresh, gone, index_writes, index_writes_in, is_row}
use Rattle.mega_index.specs.Fitted.{table_of, is_kept, kept_write, fitted_writes, most_bytes}
use Rattle.mega_handler.specs.Effects.{Effect, handled, entry_handling}
use Rattle.mega_handler.specs.Named.{effect_by, meaning}
use Rattle.mega_outcome.specs.declared.answer.Turn.{Turn}
use Rattle.mega_outcome.specs.declared.answer.Turn.TheVariants.{TooLarge}
use Rattle.mega_outcome.specs.declared.answer.Done.{Done}
use Rattle.mega_outcome.specs.declared.answer.Batch.{Batch}
use Rattle.mega_outcome.specs.declared.transaction.Change.{Change}
use Rattle.mega_outcome.specs.declared.transaction.Transaction.{Transaction}
use Rattle.mega_outcome.specs.Places.{◌>>=◌}
use Rattle.mega_outcome.specs.Checks.{all_checks}
use Rattle.mega_outcome.specs.Reads.{all_reads}
use Rattle.mega_outcome.specs.Changes.{all_changes, change}
use Rattle.mega_outcome.specs.Outcome.{all_sends, batch_length, first_change, first_read, first_send, left_out, longest, no_batch, outcome_in, taken, unless_large, with_next, with_result}
use Rattle.mega_run_laws.specs.of_tape_laws.of_promises.of_transcript.declared.item.Item.{Item}
use Rattle.mega_run_laws.specs.of_tape_laws.of_promises.of_rules.Acting.{table_rows}
use Rattle.mega_run_laws.specs.of_tape_laws.Indexed.{IsDeclared}
use Rattle.mega_run_laws.specs.of_tape_laws.Places.{In}
use Rattle.mega_run_laws.specs.of_tape_laws.Writes.{OwnEntry, Usage, enters, fills, handles, runs, runs_all}
use Rattle.mega_index.proofs.KeyLists.{key_apart, under}
use Rattle.mega_run_laws.proofs.of_tape_laws.RowKeys.{IsKeyOf, OfTable, Standing, group_is, group_of_key, of_ok, of_table, standing}
use Rattle.mega_run_laws.proofs.of_tape_laws.Replacing.{bind_turn, change_replaces}
use Rattle.mega_run_laws.specs.Justified.{Each}
use Rattle.mega_run_laws.proofs.Events.{each_append}
use Rattle.mega_run_laws.proofs.Turns.{each_on}
use Rattle.mega_row_laws.proofs.Naming.{WriteOf, a_deletion, a_named, of_entry}

-- all of these writes are such as the group's entries make
abbrev pub WritesIn : Schema → List ℕ → List Write → Type 0
WritesIn s group writes = Each (WriteOf s group) writes

-- ---- the writes of index entries

pub in_under : (es : Listed) (e : List ℕ × Row) → In e es → under es e.0 ≡ None → ⊥
in_under [] e i none = absurd i
in_under (d ∷ es) e i none = by (same_key e.0 d.0) refl (in_under es e) none i
  where
    by : (b : Bool) → same_key e.0 d.0 ≡ b → (In e es → under es e.0 ≡ None → ⊥) → cond b (Some d.1) (under es e.0) ≡ None → In e (d ∷ es) → ⊥
    by true is more g j = cc
    by false is more g (inl same) = key_apart e.0 d.0 is (ap (λ (x : List ℕ × Row). x.0) (sym same))
    by false is more g (inr j) = more j g

all_under : (all es : Listed) → ((e : List ℕ × Row) → In e es → In e all) → Each (λ (e : List ℕ × Row). under all e.0 ≡ None → ⊥) es
all_under all [] among = tt
all_under all (e ∷ es) among = (in_under all e (among e (inl refl)), all_under all es (λ d i. among d (inr i)))

module _ (s : Schema) (group : List ℕ) where
  -- a write of any row, or of none, under the key of an index entry
  abbrev AnyWrite : List ℕ × Row → Type 0
  AnyWrite e = (now : Option Row) → WriteOf s group (record { key = e.0; row = now })

  entries_in : (n : ℕ) (t : Table) (row : Option Row) → numbered s.tables n ≡ Some t → Each AnyWrite (local_entries s n t row)
  entries_in n t row at =
      each_on (λ (e : List ℕ × Row). under (local_entries s n t row) e.0 ≡ None → ⊥) AnyWrite (λ e some now. of_entry n t row at some)
      (local_entries s n t row) (all_under (local_entries s n t row) (local_entries s n t row) (λ e i. i))

  gone_in : (new es : Listed) → Each AnyWrite es → WritesIn s group (gone new es)
  gone_in new [] h = tt
  gone_in new (e ∷ es) h = by (is_none (row_under new e.0)) (gone_in new es h.1)
    where
      by : (b : Bool) → WritesIn s group (gone new es) → WritesIn s group (cond b (record { key = e.0; row = None } ∷ []) [] ++ gone new es)
      by true more = (h.0 None, more)
      by false more = more

  fresh_in : (old es : Listed) → Each AnyWrite es → WritesIn s group (fresh old es)
  fresh_in old [] h = tt
  fresh_in old (e ∷ es) h = by (is_row (row_under old e.0) e.1) (fresh_in old es h.1)
    where
      by : (b : Bool) → WritesIn s group (fresh old es) → WritesIn s group (cond b [] (record { key = e.0; row = Some e.1 } ∷ []) ++ fresh old es)
      by true more = more
      by false more = (h.0 (Some e.1), more)

  index_in : (n : ℕ) (t : Table) (old new : Option Row) → numbered s.tables n ≡ Some t → WritesIn s group (index_writes s n old new)
  index_in n t old new at =
      subst (λ o. WritesIn s group (index_writes_in s n o old new)) (sym at)
      (each_append (WriteOf s group) (gone (local_entries s n t new) (local_entries s n t old)) (fresh (local_entries s n t old) (local_entries s n t new))
      (gone_in (local_entries s n t new) (local_entries s n t old) (entries_in n t old at))
      (fresh_in (local_entries s n t old) (local_entries s n t new) (entries_in n t new at)))

  -- ---- transactions and batches

  change_in : (rows : Rows) (i : ℕ) (c : Change) (writes : List Write) → change s group rows i c ≡ Ok writes → WritesIn s group writes
  change_in rows i c writes h =
      let r = change_replaces s group rows i writes c h in
      subst (WritesIn s group) r.is (a_named r.number r.table r.values r.numbered_is r.own r.of_group, index_in r.number r.table (rows r.key) r.new r.numbered_is)

  changes_in : (rows : Rows) (i : ℕ) (cs : List Change) (writes : List Write) → all_changes s group rows i cs ≡ Ok writes → WritesIn s group writes
  changes_in rows i [] writes h = let same : [] ≡ writes = cc in subst (WritesIn s group) same tt
  changes_in rows i (c ∷ cs) writes h =
      let a = bind_turn (change s group rows i c) (λ first. all_changes s group (written first rows) (i + 1) cs >>= λ others. Ok (first ++ others)) writes h in
      let b = bind_turn (all_changes s group (written a.0 rows) (i + 1) cs) (λ others. Ok (a.0 ++ others)) writes a.2 in
      let same : a.0 ++ b.0 ≡ writes = (let e = b.2 in cc) in
      subst (WritesIn s group) same
      (each_append (WriteOf s group) a.0 b.0 (change_in rows i c a.0 a.1) (changes_in (written a.0 rows) (i + 1) cs b.0 b.1))

  pub outcome_writes : (rows : Rows) (transaction : Transaction) (done : Done) → outcome_in s group transaction rows ≡ Ok done → WritesIn s group done.writes
  outcome_writes rows transaction done h =
      let checks = bind_turn (all_checks s group rows 0 transaction.checks) (λ _. all_reads s group rows (first_read transaction) transaction.reads >>= λ replies.
      all_changes s group rows (first_change transaction) transaction.writes >>= λ writes. all_sends s (first_send transaction) transaction.sends >>= λ _.
      unless_large (longest group writes transaction.sends) (record { replies = replies; writes = writes; sends = transaction.sends })) done h in
      let reads = bind_turn (all_reads s group rows (first_read transaction) transaction.reads) (λ replies.
      all_changes s group rows (first_change transaction) transaction.writes >>= λ writes. all_sends s (first_send transaction) transaction.sends >>= λ _.
      unless_large (longest group writes transaction.sends) (record { replies = replies; writes = writes; sends = transaction.sends })) done checks.2 in
      let changes = bind_turn (all_changes s group rows (first_change transaction) transaction.writes) (λ writes. all_sends s (first_send transaction) transaction.sends >>= λ _.
      unless_large (longest group writes transaction.sends) (record { replies = reads.0; writes = writes; sends = transaction.sends })) done reads.2 in
      let sends = bind_turn (all_sends s (first_send transaction) transaction.sends) (λ _.
      unless_large (longest group changes.0 transaction.sends) (record { replies = reads.0; writes = changes.0; sends = transaction.sends })) done changes.2 in
      let same = small (nat_lt most_bytes (longest group changes.0 transaction.sends)) (longest group changes.0 transaction.sends) (record { replies = reads.0; writes = changes.0; sends = transaction.sends }) done sends.2 in
      subst (λ (d : Done). WritesIn s group d.writes) same (changes_in rows (first_change transaction) transaction.writes changes.0 changes.1)
    where
      small : (b : Bool) (n : ℕ) (d e : Done) → cond {A = Result Done Turn} b (Err (TooLarge n)) (Ok d) ≡ Ok e → d ≡ e
      small true n d e g = absurd (cc)
      small false n d e g = cc

  next_writes : (rows : Rows) (b : Batch) (transaction : Transaction) → WritesIn s group b.writes → WritesIn s group (with_next s group rows b transaction).writes
  next_writes rows b transaction before = by (outcome_in s group transaction (written b.writes rows)) refl
    where
      by : (r : Result Done Turn) → outcome_in s group transaction (written b.writes rows) ≡ r → WritesIn s group (with_result b r).writes
      by (Err turn) is = before
      by (Ok done) is = tested (nat_lt most_bytes (batch_length (taken b done)))
        where
          tested : (t : Bool) → WritesIn s group (if t then left_out b (TooLarge (batch_length (taken b done))) else taken b done).writes
          tested true = before
          tested false = each_append (WriteOf s group) b.writes done.writes before (outcome_writes (written b.writes rows) transaction done is)

  pub batch_writes : (rows : Rows) (transactions : List Transaction) (b : Batch) → WritesIn s group b.writes → WritesIn s group (fold (with_next s group rows) b transactions).writes
  batch_writes rows [] b before = before
  batch_writes rows (t ∷ ts) b before = batch_writes rows ts (with_next s group rows b t) (next_writes rows b t before)

  -- ---- what a handler writes

  standing_of : (n : ℕ) (t : Table) (key : List ℕ) (row : Row) → Standing s n t key row → IsKeyOf s n t group key → group_of s n t (key_values t.primary row) ≡ Ok group
  standing_of n t key row st is =
      let own = group_of_key s n t (key_values t.primary row) key st.own in
      own ∙ ap Ok (sym (ap of_ok own) ∙ group_is s n t group key row st is)

  put_in : (n : ℕ) (write : Write) (r : OfTable s group write.key n) (o : Option Row) → write.row ≡ o → is_kept s n write ≡ true → WriteOf s group write
  put_in n write r None is kept = a_deletion n r.table r.numbered_is r.is_key is
  put_in n write r (Some row) is kept =
      let stood : stands_in s n (Some r.table) write.key row ≡ true =
      ap (λ o. stands_in s n o write.key row) (sym r.numbered_is) ∙ ap (λ o. is_kept s n (record { key = write.key; row = o })) (sym is) ∙ kept in
      let st = standing s n r.table write.key row stood in
      a_named n r.table (key_values r.table.primary row) r.numbered_is st.own (standing_of n r.table write.key row st r.is_key)

  kept_in : IsDeclared s → (seen : Rows) (write : Write) → WritesIn s group (kept_write s (table_of s group write.key) seen write)
  kept_in d seen write = by (table_of s group write.key) refl
    where
      tested : (n : ℕ) → table_of s group write.key ≡ Some n → (b : Bool) → is_kept s n write ≡ b → WritesIn s group (if b then write ∷ index_writes s n (seen write.key) write.row else [])
      tested n at false kept = tt
      tested n at true kept =
          let r = of_table s group write.key n d.most at in
          (put_in n write r write.row refl kept, index_in n r.table (seen write.key) write.row r.numbered_is)

      by : (o : Option ℕ) → table_of s group write.key ≡ o → WritesIn s group (kept_write s o seen write)
      by None at = tt
      by (Some n) at = tested n at (is_kept s n write) refl

  pub fitted_in : IsDeclared s → (seen : Rows) (writes : List Write) → WritesIn s group (fitted_writes s group seen writes)
  fitted_in d seen [] = tt
  fitted_in d seen (write ∷ writes) =
      each_append (WriteOf s group) (kept_write s (table_of s group write.key) seen write) (fitted_writes s group (written (kept_write s (table_of s group write.key) seen write) seen) writes)
      (kept_in d seen write) (fitted_in d (written (kept_write s (table_of s group write.key) seen write) seen) writes)

-- ---- entries

pub entry_writes : (s : Schema) → IsDeclared s → (usage : Usage) (tape : List Item) (op : OpId) (group : GroupId) (below : List Content) (e : Content) → OwnEntry s usage tape op group below e → WritesIn s group.key e.writes
entry_writes s d usage tape op group below e (fills is) = subst (λ (x : Content). WritesIn s group.key x.writes) (sym is) tt
entry_writes s d usage tape op group below e (runs transaction done asked at comes is) =
    subst (λ (x : Content). WritesIn s group.key x.writes) (sym is)
    (outcome_writes s group.key (after below no_rows) transaction done (ap (λ (g : GroupId). outcome_in s g.key transaction (after below no_rows)) (sym at) ∙ comes))
entry_writes s d usage tape op group below e (runs_all transactions asked is) =
    subst (λ (x : Content). WritesIn s group.key x.writes) (sym is) (batch_writes s group.key (after below no_rows) transactions no_batch tt)
entry_writes s d usage tape op group below e (enters message sent posted asked known found to says fresh is) = subst (λ (x : Content). WritesIn s group.key x.writes) (sym is) tt
entry_writes s d usage tape op group below e (handles message moment asked oldest is) =
    subst (λ (x : Content). WritesIn s group.key x.writes) (sym is)
    (tested (nat_lt most_bytes (length (entry_text (entry_handling op message.name effect)))))
  where
    seen : Listed
    seen = table_rows s group (list_after below [])

    makes : Effect
    makes = effect_by (meaning ((usage.handlers) moment) message.queue) message seen

    effect : Effect
    effect = handled s group (table_rows s group (list_after below [])) (effect_by (meaning ((usage.handlers) moment) message.queue) message (table_rows s group (list_after below [])))

    tested : (b : Bool) → WritesIn s group.key (if b then entry_handling op message.name ([], []) else entry_handling op message.name effect).writes
    tested true = tt
    tested false = fitted_in s group.key d (row_under seen) makes.0
