-- One item more of a transaction.
use Rattle.std.proofs.Common.{◌≡◌, ◌∙◌, ap, sym, refl, ℕ, ◌+◌, List, ◌∷◌, ◌++◌, length}
use Rattle.std.specs.Prelude.{Option, Some, None, Result, Ok, Err}
use Rattle.std.proofs.lemmas.List.{append_assoc}
use Rattle.mega_base.specs.declared.values.Row.{Row}
use Rattle.mega_index.specs.of_entry.declared.content.Write.{Write}
use Rattle.mega_index.specs.of_schema.declared.schema.Table.{Table}
use Rattle.mega_index.specs.of_schema.declared.schema.Schema.{Schema}
use Rattle.mega_index.specs.Rows.{Rows, written}
use Rattle.mega_index.specs.Fits.{numbered}
use Rattle.mega_outcome.specs.declared.answer.Turn.{Turn}
use Rattle.mega_outcome.specs.declared.transaction.Change.{Change}
use Rattle.mega_outcome.specs.declared.transaction.Change.TheVariants.{Put, Delete, Add}
use Rattle.mega_outcome.specs.declared.transaction.Transaction.{Transaction}
use Rattle.mega_outcome.specs.Places.{◌>>=◌}
use Rattle.mega_outcome.specs.Checks.{all_checks}
use Rattle.mega_outcome.specs.Reads.{all_reads}
use Rattle.mega_outcome.specs.Changes.{put_in, change, all_changes}
use Rattle.mega_outcome.specs.Outcome.{outcome_in}
use Rattle.mega_outcome.specs.Steps.{put_key, put_at, changed_key, changed_to, with_front, seen_by, written_by}

pub put_is : (s : Schema) (group : List ℕ) (rows : Rows) (i n : ℕ) (t : Option Table) (row : Row)
    → put_in s group rows i n t row ≡ (put_key s group i n t row >>= λ key. put_at s i n row key (rows key))
put_is s group rows i n None row = refl
put_is s group rows i n (Some t) row = refl

pub change_is : (s : Schema) (group : List ℕ) (rows : Rows) (i : ℕ) (c : Change)
    → change s group rows i c ≡ (changed_key s group i c >>= λ key. changed_to s i c key (rows key))
change_is s group rows i (Put n row) = put_is s group rows i n (numbered s.tables n) row
change_is s group rows i (Delete row) = refl
change_is s group rows i (Add row property by) = refl

joined : {A : Type 0} (front more : List A) (m : Result (List A) Turn) → with_front front (with_front more m) ≡ with_front (front ++ more) m
joined front more (Ok xs) = ap Ok (sym (append_assoc front more xs))
joined front more (Err turn) = refl

pub changes_go_on : (s : Schema) (group : List ℕ) (rows : Rows) (i : ℕ) (c : Change) (cs : List Change) (front writes : List Write)
    → Ok writes ≡ change s group rows i c → with_front front (all_changes s group rows i (c ∷ cs)) ≡ with_front (front ++ writes) (all_changes s group (written writes rows) (i + 1) cs)
changes_go_on s group rows i c cs front writes ok =
    ap (λ (m : Result (List Write) Turn). with_front front (m >>= λ writes. all_changes s group (written writes rows) (i + 1) cs >>= λ others. Ok (writes ++ others))) (sym ok)
    ∙ joined front writes (all_changes s group (written writes rows) (i + 1) cs)

pub changes_stop : (s : Schema) (group : List ℕ) (rows : Rows) (i : ℕ) (c : Change) (cs : List Change) (front : List Write) (turn : Turn)
    → Err turn ≡ change s group rows i c → with_front front (all_changes s group rows i (c ∷ cs)) ≡ Err turn
changes_stop s group rows i c cs front turn refused =
    ap (λ (m : Result (List Write) Turn). with_front front (m >>= λ writes. all_changes s group (written writes rows) (i + 1) cs >>= λ others. Ok (writes ++ others))) (sym refused)

pub outcome_is : (s : Schema) (group : List ℕ) (txn : Transaction) (rows : Rows)
    → outcome_in s group txn rows ≡ (seen_by s group txn rows >>= λ replies. written_by s group txn rows replies)
outcome_is s group txn rows = by (all_checks s group rows 0 txn.checks)
  where
    by : (m : Result (Unit {0}) Turn) → (m >>= λ _. all_reads s group rows (length txn.checks) txn.reads >>= λ replies. written_by s group txn rows replies)
        ≡ ((m >>= λ _. all_reads s group rows (length txn.checks) txn.reads) >>= λ replies. written_by s group txn rows replies)
    by (Ok u) = refl
    by (Err turn) = refl
