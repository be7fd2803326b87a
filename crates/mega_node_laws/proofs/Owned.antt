-- What is of a group alone: of longer logs, of shorter ones, and in what a read sees.
use Rattle.std.proofs.Common.{◌≡◌, ◌≤◌, ℕ, zero, suc, List, ◌∷◌, ◌++◌, length, take, drop, Option, Some, None, sym, ap, ◌∙◌, subst, [], refl, append_assoc}
use Rattle.std.proofs.Math.Seq.{take-append_seam}
use Rattle.std.proofs.lemmas.List.{take-append-drop}
use Rattle.std.proofs.lemmas.Grind.{flat_map-append}
use Rattle.mega_base.specs.declared.names.GroupId.{GroupId}
use Rattle.mega_base.specs.declared.values.Row.{Row}
use Rattle.mega_entry.specs.declared.content.Content.{Content}
use Rattle.mega_entry.specs.declared.content.Write.{Write}
use Rattle.mega_disk.specs.VersionMaps.{Versions, or_else}
use Rattle.mega_schema.specs.declared.schema.Schema.{Schema}
use Rattle.mega_index.specs.Rows.{after, no_rows, written}
use Rattle.mega_outcome.specs.Answers.{rows_at}
use Rattle.mega_outcome.specs.Group.{AgreeIn}
use Rattle.mega_outcome.specs.Outcome.{batch_outcome, entry_cuts, outcome}
use Rattle.mega_outcome.specs.Reads.{read_rows}
use Rattle.mega_outcome.specs.declared.answer.Batch.{Batch}
use Rattle.mega_outcome.specs.declared.transaction.RowRef.{RowRef}
use Rattle.mega_outcome.specs.declared.transaction.Transaction.{Transaction}
use Rattle.mega_outcome.proofs.Group.{batch_same, outcome_same, read_rows_same}
use Rattle.mega_replica.specs.Applying.{applied, writes_of}
use Rattle.mega_voter.specs.of_rules.Met.{Met}
use Rattle.mega_voter.specs.of_rules.Logs.{log_of}
use Rattle.mega_voter.specs.of_rules.Steps.{onto}
use Rattle.mega_replica.specs.declared.progress.Progress.{Progress}
use Rattle.mega_replica.specs.Stored.{Counts, GroupLogs, IsUnwritten, last_write}
use Rattle.mega_replica.specs.Following.{Follows}
use Rattle.mega_replica.proofs.Writing.{last_write-append}
use Rattle.mega_replica.proofs.Reading.{read_is}
use Rattle.mega_node_laws.specs.Deciding.{SameLogs}
use Rattle.mega_node_laws.specs.Own.{HasOwnRows}
use Rattle.mega_node_laws.proofs.Logs.{log_more, log_more_after}

neither : (a b : Option (Option Row)) → or_else a b ≡ None → b ≡ None
neither None b is = is
neither (Some row) b is = absurd (cc)

-- what a log does not write, its front does not
front_unwritten : (key : List ℕ) (log longer more : List Content) → longer ≡ log ++ more → IsUnwritten key longer → IsUnwritten key log
front_unwritten key log longer more begins unwritten =
    neither (last_write key (writes_of more)) (last_write key (writes_of log))
    (sym (last_write-append key (writes_of log) (writes_of more))
    ∙ ap (last_write key) (sym (flat_map-append (λ (entry : Content). entry.writes) log more))
    ∙ ap (λ (entries : List Content). last_write key (writes_of entries)) (sym begins)
    ∙ unwritten)

-- what a log wrote first, a longer one wrote first
front_writes : (count : ℕ) (log longer more : List Content) → longer ≡ log ++ more → take (length (take count (writes_of log))) (writes_of longer) ≡ take count (writes_of log)
front_writes count log longer more begins =
    ap (λ (entries : List Content). take (length front) (writes_of entries)) begins
    ∙ ap (take (length front)) (flat_map-append (λ (entry : Content). entry.writes) log more
    ∙ ap (λ (writes : List Write). writes ++ writes_of more) (sym (take-append-drop count (writes_of log))) ∙ append_assoc front (drop count (writes_of log)) (writes_of more))
    ∙ take-append_seam front (drop count (writes_of log) ++ writes_of more)
  where
    front : List Write
    front = take count (writes_of log)

pub shorter_owns : (schema : Schema) (log longer more : GroupLogs) → ((group : GroupId) → longer group ≡ log group ++ more group) → HasOwnRows schema longer → HasOwnRows schema log
shorter_owns schema log longer more begins owns = record {
  own = λ group i n values key named other apart. front_unwritten key (log other) (longer other) (more other) (begins other) (owns.own group i n values key named other apart);
  named = λ group key n count row of there.
      owns.named group key n (length (take count (writes_of (log group)))) row of
      (ap (λ (writes : List Write). written writes no_rows key) (front_writes count (log group) (longer group) (more group) (begins group)) ∙ there);
}

pub owned_before : (schema : Schema) (one : Met) (met : List Met) → HasOwnRows schema (log_of (one ∷ met)) → HasOwnRows schema (log_of met)
owned_before schema one met = shorter_owns schema (log_of met) (log_of (one ∷ met)) (λ group. (log_more one met group).0) (λ group. (log_more one met group).1)

pub owned_before_all : (schema : Schema) (items met : List Met) → HasOwnRows schema (log_of (onto items met)) → HasOwnRows schema (log_of met)
owned_before_all schema items met = shorter_owns schema (log_of met) (log_of (onto items met)) (λ group. (log_more_after items met group).0) (λ group. (log_more_after items met group).1)

-- a node that met nothing
pub owned_first : (schema : Schema) → HasOwnRows schema (log_of [])
owned_first schema = record { own = λ group i n values key named other apart. refl; named = λ group key n count row of there. absurd (nothing count key row there) }
  where
    nothing : (count : ℕ) (key : List ℕ) (row : Row) → written (take count []) no_rows key ≡ Some row → ⊥
    nothing zero key row there = cc
    nothing (suc count) key row there = cc

pub owned_same_logs : (schema : Schema) (old new : List Met) → SameLogs old new → HasOwnRows schema (log_of old) → HasOwnRows schema (log_of new)
owned_same_logs schema old new same owns = subst (λ (log : GroupLogs). HasOwnRows schema log) (sym (λ i group. same.logs group i)) owns

pub owned_of_same_logs : (schema : Schema) (old new : List Met) → SameLogs old new → HasOwnRows schema (log_of new) → HasOwnRows schema (log_of old)
owned_of_same_logs schema old new same owns = subst (λ (log : GroupLogs). HasOwnRows schema log) (λ i group. same.logs group i) owns

-- what a group's items name is read as its entries wrote it
pub reads_agree : (version : Versions) (progress : GroupId → Progress) (log : GroupLogs) (stored : Counts) (schema : Schema) (group : GroupId) (p : ℕ)
    → Follows version progress log stored → HasOwnRows schema log → p ≤ applied (log group) (stored group)
    → AgreeIn schema group.key (rows_at version p) (after (take p (log group)) no_rows)
reads_agree version progress log stored schema group p follows owns le i n values key named =
    read_is version progress log stored group key p follows (owns.own group i n values key named) le

-- so what its items come to is what they come to over its log
module _ (version : Versions) (progress : GroupId → Progress) (log : GroupLogs) (stored : Counts) (schema : Schema) (group : GroupId) (p : ℕ)
    (follows : Follows version progress log stored) (owns : HasOwnRows schema log) (le : p ≤ applied (log group) (stored group)) where
  pub outcome_is : (txn : Transaction) → txn.group ≡ group → outcome schema txn (rows_at version p) ≡ outcome schema txn (after (take p (log group)) no_rows)
  outcome_is txn same =
      outcome_same schema txn.group.key txn (rows_at version p) (after (take p (log group)) no_rows)
      (subst (λ (g : GroupId). AgreeIn schema g.key (rows_at version p) (after (take p (log group)) no_rows)) (sym same) (reads_agree version progress log stored schema group p follows owns le))

  pub batch_is : (own : GroupId) (txns : List Transaction) → own ≡ group → batch_outcome schema own txns (rows_at version p) ≡ batch_outcome schema own txns (after (take p (log group)) no_rows)
  batch_is own txns same =
      ap (λ (all : Batch). record { results = all.results; writes = all.writes; sends = all.sends; cuts = entry_cuts all.cuts })
      (batch_same schema own.key txns (rows_at version p) (after (take p (log group)) no_rows)
      (subst (λ (g : GroupId). AgreeIn schema g.key (rows_at version p) (after (take p (log group)) no_rows)) (sym same) (reads_agree version progress log stored schema group p follows owns le)))

  pub rows_are : (refs : List RowRef) → read_rows schema group refs (rows_at version p) ≡ read_rows schema group refs (after (take p (log group)) no_rows)
  rows_are refs = read_rows_same schema group refs (rows_at version p) (after (take p (log group)) no_rows) (reads_agree version progress log stored schema group p follows owns le)
