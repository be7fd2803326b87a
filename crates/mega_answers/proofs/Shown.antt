-- What reads show: of named rows what a transaction shows that only reads them, and else all rows of the group's tables.
use Rattle.std.proofs.Common.{◌≡◌, ◌∙◌, ℕ, List, [], ◌∷◌, Bool, true, false, cond, length, sym, ap, refl, arith}
use Rattle.std.specs.Prelude.{Option, Result, Ok, Err, nat_lt}
use Rattle.std.proofs.lemmas.List.{take_all}
use Rattle.mega_base.specs.declared.names.GroupId.{GroupId}
use Rattle.mega_entry.specs.declared.content.Content.{Content}
use Rattle.mega_disk.specs.VersionMaps.{Versions}
use Rattle.mega_schema.specs.declared.schema.Schema.{Schema}
use Rattle.mega_index.specs.Fitted.{most_bytes}
use Rattle.mega_index.specs.Rows.{Listed, Rows, no_rows, written}
use Rattle.mega_outcome.specs.declared.answer.Answer.{Answer}
use Rattle.mega_outcome.specs.declared.answer.Answer.TheVariants.{Read as ReadAnswer}
use Rattle.mega_outcome.specs.declared.answer.Done.{Done}
use Rattle.mega_outcome.specs.declared.answer.Shown.{Shown}
use Rattle.mega_outcome.specs.declared.answer.Turn.{Turn}
use Rattle.mega_outcome.specs.declared.answer.Turn.TheVariants.{TooLarge}
use Rattle.mega_outcome.specs.declared.request.ReadRequest.{ReadRequest}
use Rattle.mega_outcome.specs.declared.transaction.RowRef.{RowRef}
use Rattle.mega_outcome.specs.declared.transaction.Transaction.{Transaction}
use Rattle.mega_outcome.specs.Answers.{rows_at as versions_at}
use Rattle.mega_outcome.specs.Outcome.{longest, outcome, unless_large}
use Rattle.mega_outcome.specs.Places.{◌>>=◌, key_in}
use Rattle.mega_outcome.specs.Reads.{all_reads, all_rows, read_rows}
use Rattle.mega_outcome.proofs.Group.{outcome_same}
use Rattle.mega_outcome.proofs.Sizes.{entry_length}
use Rattle.mega_replica.specs.Applying.{stored_writes}
use Rattle.mega_replica.specs.declared.progress.Progress.{Progress}
use Rattle.mega_replica.specs.Stored.{Counts, GroupLogs}
use Rattle.mega_replica.specs.Following.{Follows}
use Rattle.mega_replica.proofs.Reading.{stored_is}
use Rattle.mega_rules.specs.Operations.{Setting}
use Rattle.mega_rules.specs.Acting.{read_answer, rows_answer}
use Rattle.mega_marks.specs.of_node_laws.Own.{HasOwnRows}
use Rattle.mega_step_work.specs.Servable.{is_named}
use Rattle.mega_answers.specs.Showing.{reading, told}

-- its entry is short
short : (group : List ℕ) → nat_lt most_bytes (longest group [] []) ≡ false
short group = ap (nat_lt most_bytes) (entry_length [] [] [])

reads_alone : (s : Schema) (group : GroupId) (refs : List RowRef) (p : ℕ) (rows : Rows) → told p (outcome s (reading group refs) rows) ≡ rows_answer p (read_rows s group refs rows)
reads_alone s group refs p rows = by (all_reads s group.key rows 0 refs)
  where
    by : (r : Result (List (Option Shown)) Turn) → told p (r >>= λ replies. unless_large (longest group.key [] []) (record { replies = replies; writes = []; sends = [] })) ≡ rows_answer p r
    by (Ok replies) = ap (λ (b : Bool). told p (cond b (Err (TooLarge (longest group.key [] []))) (Ok (record { replies = replies; writes = []; sends = [] })))) (short group.key)
    by (Err turn) = refl

module _ (s : Setting) (request : ReadRequest) (p : ℕ) (rows : Rows) (listed : Listed) where
  abbrev shows : List RowRef → Answer
  shows [] = ReadAnswer (record { 0 = p }) (all_rows s.cluster.schema request.group listed)
  shows (row ∷ more) = rows_answer p (read_rows s.cluster.schema request.group (row ∷ more) rows)

  named_rows : (refs : List RowRef) → is_named refs ≡ true → shows refs ≡ rows_answer p (read_rows s.cluster.schema request.group refs rows)
  named_rows [] named = absurd (cc)
  named_rows (row ∷ more) named = refl

  named_by : is_named request.rows ≡ true → read_answer s request p rows listed ≡ rows_answer p (read_rows s.cluster.schema request.group request.rows rows)
  named_by named = named_rows request.rows named

  unnamed_rows : (refs : List RowRef) → is_named refs ≡ false → shows refs ≡ ReadAnswer (record { 0 = p }) (all_rows s.cluster.schema request.group listed)
  unnamed_rows [] none = refl
  unnamed_rows (row ∷ more) none = absurd (cc)

  -- one that names no rows shows all
  pub all_shown : is_named request.rows ≡ false → read_answer s request p rows listed ≡ ReadAnswer (record { 0 = p }) (all_rows s.cluster.schema request.group listed)
  all_shown none = unnamed_rows request.rows none

-- a read is answered what its transaction comes to over rows that agree
pub read_told : (s : Setting) (schema : Schema) (request : ReadRequest) (p : ℕ) (looked seen : Rows) (listed : Listed) (came : Result Done Turn) → s.cluster.schema ≡ schema → is_named request.rows ≡ true
    → ((txn : Transaction) → txn.group ≡ request.group → outcome schema txn looked ≡ outcome schema txn seen)
    → came ≡ outcome schema (reading request.group request.rows) looked → read_answer s request p seen listed ≡ told p came
read_told s schema request p looked seen listed came same named agree is =
    named_by s request p seen listed named
    ∙ ap (λ (known : Schema). rows_answer p (read_rows known request.group request.rows seen)) same
    ∙ sym (reads_alone schema request.group request.rows p seen)
    ∙ sym (ap (told p) (agree (reading request.group request.rows) refl))
    ∙ sym (ap (told p) is)

-- behind its whole log a group's transactions come to what they come to over all that is stored
pub stored_outcome : (version : Versions) (progress : GroupId → Progress) (log : GroupLogs) (stored : Counts) (schema : Schema) (group : GroupId) → Follows version progress log stored → HasOwnRows schema log
    → (txn : Transaction) → txn.group ≡ group → outcome schema txn (versions_at version (length (log group))) ≡ outcome schema txn (written (stored_writes (log group) (stored group)) no_rows)
stored_outcome version progress log stored schema group follows owns txn same =
    outcome_same schema txn.group.key txn (versions_at version (length (log group))) (written (stored_writes (log group) (stored group)) no_rows)
    (λ i n values key named.
    stored_is version progress log stored group key (length (log group)) follows (owns.own group i n values key (ap (λ (g : GroupId). key_in schema g.key i n values) (sym same) ∙ named))
    ∙ ap (λ (entries : List Content). written (stored_writes entries (stored group)) no_rows key) (take_all (length (log group)) (log group) (omega arith)))
