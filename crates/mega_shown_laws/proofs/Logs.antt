-- Each write of a log leaves rows that fit, and so do any first writes of it.
use Rattle.std.proofs.Common.{◌≡◌, ℕ, suc, Bool, true, false, if◌then◌else◌, List, [], ◌∷◌, length, take, slice_get, nat_lt, refl, sym, ap, ◌∙◌, subst, Some}
use Rattle.mega_base.specs.declared.names.GroupId.{GroupId}
use Rattle.mega_base.specs.declared.names.OpId.{OpId}
use Rattle.mega_cluster.specs.declared.cluster.Cluster.{Cluster}
use Rattle.mega_entry.specs.declared.content.Content.{Content}
use Rattle.mega_entry.specs.Entries.{entry_text}
use Rattle.mega_schema.specs.declared.schema.Schema.{Schema}
use Rattle.mega_index.specs.Fitted.{most_bytes}
use Rattle.mega_index.specs.Rows.{Listed, after, list_after, no_rows, row_under, written}
use Rattle.mega_handler.specs.Effects.{Effect, entry_handling, handled}
use Rattle.mega_handler.specs.Named.{effect_by, meaning}
use Rattle.mega_outcome.specs.Outcome.{first_change, outcome_in}
use Rattle.mega_replica.specs.Applying.{stored_writes, writes_of}
use Rattle.mega_transcript.specs.declared.item.Item.{Item}
use Rattle.mega_rules.specs.Acting.{table_rows}
use Rattle.mega_promises.specs.Promises.{log_of}
use Rattle.mega_tape_laws.specs.Growing.{RowsFit}
use Rattle.mega_tape_laws.specs.Indexed.{IsDeclared}
use Rattle.mega_tape_laws.specs.Writes.{LawfulWrites, OwnEntry, Usage, enters, fills, handles, runs, runs_all}
use Rattle.mega_tape_laws.proofs.Fitting.{none_fit}
use Rattle.mega_tape_laws.proofs.FittingLogs.{log_fits}
use Rattle.mega_tape_laws.proofs.Serial.{own_entry}
use Rattle.mega_format_laws.specs.Rounds.{Each}
use Rattle.mega_format_laws.proofs.Each.{each_flat, each_take}
use Rattle.mega_shown_laws.proofs.Outcomes.{batch_fits, parts_of}
use Rattle.mega_shown_laws.proofs.Writes.{AreFitting, Fitting, all_fit, changes_fit, fitted_fit}

module _ (s : Schema) (d : IsDeclared s) where
  entry_fits : (usage : Usage) (tape : List Item) (op : OpId) (group : GroupId) (below : List Content) (e : Content) → RowsFit s (after below no_rows) → OwnEntry s usage tape op group below e → AreFitting s e.writes
  entry_fits usage tape op group below e fit (fills is) = subst (λ (x : Content). AreFitting s x.writes) (sym is) tt
  entry_fits usage tape op group below e fit (runs transaction done asked at comes is) =
      let parts = parts_of s group.key (after below no_rows) transaction done (ap (λ (g : GroupId). outcome_in s g.key transaction (after below no_rows)) (sym at) ∙ comes) in
      subst (λ (x : Content). AreFitting s x.writes) (sym is) (changes_fit s d group.key (after below no_rows) fit (first_change transaction) transaction.writes done.writes parts.changes)
  entry_fits usage tape op group below e fit (runs_all transactions asked is) =
      subst (λ (x : Content). AreFitting s x.writes) (sym is) (batch_fits s d group.key (after below no_rows) transactions fit).writes_fit
  entry_fits usage tape op group below e fit (enters message sent posted asked known found to says fresh is) = subst (λ (x : Content). AreFitting s x.writes) (sym is) tt
  entry_fits usage tape op group below e fit (handles message moment asked oldest is) =
      subst (λ (x : Content). AreFitting s x.writes) (sym is)
      (tested (nat_lt most_bytes (length (entry_text (entry_handling op message.name effect)))))
    where
      seen : Listed
      seen = table_rows s group (list_after below [])

      makes : Effect
      makes = effect_by (meaning ((usage.handlers) moment) message.queue) message seen

      effect : Effect
      effect = handled s group (table_rows s group (list_after below [])) (effect_by (meaning ((usage.handlers) moment) message.queue) message (table_rows s group (list_after below [])))

      tested : (b : Bool) → AreFitting s (if b then entry_handling op message.name ([], []) else entry_handling op message.name effect).writes
      tested true = tt
      tested false = fitted_fit s d group.key (row_under seen) makes.0

each_got : {X : Type 0} (P : X → Type 0) (xs : List X) → ((n : ℕ) (x : X) → slice_get xs n ≡ Some x → P x) → Each P xs
each_got P [] got = tt
each_got P (x ∷ xs) got = (got 0 x refl, each_got P xs (λ n y is. got (suc n) y is))

log_writes : (c : Cluster) (usage : Usage) (tape : List Item) → LawfulWrites c usage tape → IsDeclared c.schema → (group : GroupId) → AreFitting c.schema (writes_of (log_of tape group))
log_writes c usage tape l d group =
    each_flat (λ (e : Content). AreFitting c.schema e.writes) (Fitting c.schema) (λ (e : Content). e.writes) (λ e fit. fit) (log_of tape group)
    (each_got (λ (e : Content). AreFitting c.schema e.writes) (log_of tape group) (λ n e is.
    let o = own_entry c usage tape l group n e is in
    entry_fits c.schema d usage tape o.0 group (take n (log_of tape group)) e (log_fits c usage tape l d group n) o.1))

-- after any first writes of a log, in the midst of an entry too
pub stored_fit : (c : Cluster) (usage : Usage) (tape : List Item) → LawfulWrites c usage tape → IsDeclared c.schema → (group : GroupId) (count : ℕ) → RowsFit c.schema (written (stored_writes (log_of tape group) count) no_rows)
stored_fit c usage tape l d group count =
    all_fit c.schema (stored_writes (log_of tape group) count) no_rows (none_fit c.schema)
    (each_take (Fitting c.schema) count (writes_of (log_of tape group)) (log_writes c usage tape l d group))
