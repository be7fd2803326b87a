-- The rows that a read shows fit their tables: over the first entries of a log, and over any first writes of it.
use Rattle.std.proofs.Common.{◌≡◌, inl, inr, ℕ, zero, suc, List, [], ◌∷◌, ◌++◌, length, take, refl, sym, ap, ◌∙◌, subst, Option, Some, None, Ok, true}
use Rattle.std.specs.List.{cons_option}
use Rattle.std.proofs.lemmas.List.Sums.{fold-append}
use Rattle.mega_base.specs.declared.names.GroupId.{GroupId}
use Rattle.mega_base.specs.declared.values.Row.{Row}
use Rattle.mega_cluster.specs.declared.cluster.Cluster.{Cluster}
use Rattle.mega_entry.specs.declared.content.Content.{Content}
use Rattle.mega_entry.specs.declared.content.Write.{Write}
use Rattle.mega_schema.specs.declared.schema.Schema.{Schema}
use Rattle.mega_index.specs.Fits.{fits}
use Rattle.mega_index.specs.Fitted.{table_of}
use Rattle.mega_index.specs.Rows.{Listed, after, changed, list_after, list_written, no_rows, row_under, written}
use Rattle.mega_outcome.specs.declared.answer.Shown.{Shown}
use Rattle.mega_outcome.specs.declared.request.ReadRequest.{ReadRequest}
use Rattle.mega_outcome.specs.declared.transaction.RowRef.{RowRef}
use Rattle.mega_outcome.specs.Reads.{all_reads, all_rows, shown_in}
use Rattle.mega_replica.specs.Applying.{stored_writes, writes_of}
use Rattle.mega_transcript.specs.declared.item.Item.{Item}
use Rattle.mega_promises.specs.Promises.{log_of, rows_shown}
use Rattle.mega_tape_laws.specs.Indexed.{IsDeclared}
use Rattle.mega_tape_laws.specs.Places.{In}
use Rattle.mega_tape_laws.specs.Writes.{LawfulWrites, Usage}
use Rattle.mega_tape_laws.proofs.FittingLogs.{log_fits}
use Rattle.mega_index.proofs.Ordered.{Ascends}
use Rattle.mega_index.proofs.KeyLists.{after-ascends, after_is}
use Rattle.mega_tape_laws.proofs.Placed.{in_under}
use Rattle.mega_row_laws.proofs.Nodes.{tape_owns}
use Rattle.mega_format_laws.specs.Rounds.{Each}
use Rattle.mega_shown_laws.specs.Fitting.{FitsTable}
use Rattle.mega_shown_laws.proofs.Logs.{stored_fit}
use Rattle.mega_shown_laws.proofs.Outcomes.{key_named, reads_fit, row_fits_there}

-- ---- the first entries of a log as its first writes

after_written : (log : List Content) (rows : List ℕ → Option Row) → after log rows ≡ written (writes_of log) rows
after_written [] rows = refl
after_written (e ∷ log) rows = after_written log (written e.writes rows) ∙ sym (fold-append changed rows e.writes (writes_of log))

take_behind : {X : Type 0} (xs ys zs : List X) → take (length (xs ++ ys)) (xs ++ zs) ≡ xs ++ take (length ys) zs
take_behind [] ys zs = refl
take_behind (x ∷ xs) ys zs = ap (λ more. x ∷ more) (take_behind xs ys zs)

front_writes : (p : ℕ) (log : List Content) → writes_of (take p log) ≡ stored_writes log (length (writes_of (take p log)))
front_writes zero log = refl
front_writes (suc p) [] = refl
front_writes (suc p) (e ∷ log) = ap (λ more. e.writes ++ more) (front_writes p log) ∙ sym (take_behind e.writes (writes_of (take p log)) (writes_of log))

-- ---- all rows of a group's tables

each_row : (s : Schema) (group : GroupId) (es : Listed) → ((e : List ℕ × Row) → In e es → (n : ℕ) → table_of s group.key e.0 ≡ Some n → fits s n e.1 ≡ true) → Each (FitsTable s) (all_rows s group es)
each_row s group [] h = tt
each_row s group (e ∷ es) h = by (table_of s group.key e.0) refl (each_row s group es (λ d i. h d (inr i)))
  where
    by : (o : Option ℕ) → table_of s group.key e.0 ≡ o → Each (FitsTable s) (all_rows s group es) → Each (FitsTable s) (cons_option (shown_in o e.1) (all_rows s group es))
    by None at more = more
    by (Some n) at more = (h e (inl refl) n at, more)

-- an entry whose writes these are
abbrev holding : List Write → Content
holding writes = record { id = None; leader = record { 0 = 1 }; writes = writes; sends = []; enters = []; handles = []; cuts = [] }

module _ (c : Cluster) (usage : Usage) (tape : List Item) (l : LawfulWrites c usage tape) (d : IsDeclared c.schema) (group : GroupId) where
  listed_fit : (count : ℕ) (listed : Listed) → Ascends listed → row_under listed ≡ written (stored_writes (log_of tape group) count) no_rows → Each (FitsTable c.schema) (all_rows c.schema group listed)
  listed_fit count listed up same = each_row c.schema group listed (λ e i n at.
      let there : written (stored_writes (log_of tape group) count) no_rows e.0 ≡ Some e.1 = sym (λ j. same j e.0) ∙ in_under listed e up i in
      let name = (tape_owns c usage tape l d).named group e.0 n count e.1 at there in
      row_fits_there c.schema (written (stored_writes (log_of tape group) count) no_rows) (stored_fit c usage tape l d group count) n name.0 e.0 e.1 (key_named c.schema group.key 0 n name.0 e.0 name.1) there)

  pub stored_rows_fit : (count : ℕ) → Each (FitsTable c.schema) (all_rows c.schema group (list_written (stored_writes (log_of tape group) count) []))
  stored_rows_fit count =
      let one = holding (stored_writes (log_of tape group) count) ∷ [] in
      listed_fit count (list_after one []) (after-ascends one [] tt) (after_is one [] tt)

  front_rows_fit : (p : ℕ) → Each (FitsTable c.schema) (all_rows c.schema group (list_after (take p (log_of tape group)) []))
  front_rows_fit p =
      let front = take p (log_of tape group) in
      listed_fit (length (writes_of front)) (list_after front []) (after-ascends front [] tt)
      (after_is front [] tt ∙ after_written front no_rows ∙ ap (λ writes. written writes no_rows) (front_writes p (log_of tape group)))

  -- ---- what is read

  pub rows_shown_fit : (request : ReadRequest) → request.group ≡ group → (p : ℕ) (refs : List RowRef) (rows : List (Option Shown)) → rows_shown c.schema request (take p (log_of tape group)) refs ≡ Ok rows → Each (FitsTable c.schema) rows
  rows_shown_fit request same p [] rows h =
      let all : all_rows c.schema request.group (list_after (take p (log_of tape group)) []) ≡ rows = cc in
      subst (Each (FitsTable c.schema)) all (subst (λ g. Each (FitsTable c.schema) (all_rows c.schema g (list_after (take p (log_of tape group)) []))) (sym same) (front_rows_fit p))
  rows_shown_fit request same p (r ∷ refs) rows h = reads_fit c.schema request.group.key (after (take p (log_of tape group)) no_rows) (log_fits c usage tape l d group p) 0 (r ∷ refs) rows h

  pub stored_reads_fit : (count i : ℕ) (refs : List RowRef) (rows : List (Option Shown)) → all_reads c.schema group.key (written (stored_writes (log_of tape group) count) no_rows) i refs ≡ Ok rows → Each (FitsTable c.schema) rows
  stored_reads_fit count i refs rows h = reads_fit c.schema group.key (written (stored_writes (log_of tape group) count) no_rows) (stored_fit c usage tape l d group count) i refs rows h
