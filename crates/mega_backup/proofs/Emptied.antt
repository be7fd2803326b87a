-- Over a store with nothing in it the outcome is that over no rows.
use Rattle.std.proofs.Common.{◌≡◌, ℕ, List, Bool, false, Option, None, Result, Err, ap, subst, ◌∙◌, sym}
use Rattle.mega_base.specs.declared.values.Row.{Row}
use Rattle.mega_disk.specs.VersionMaps.{Versions, row_of, version_at}
use Rattle.mega_schema.specs.declared.schema.Schema.{Schema}
use Rattle.mega_index.specs.Rows.{no_rows}
use Rattle.mega_outcome.specs.declared.answer.Done.{Done}
use Rattle.mega_outcome.specs.declared.answer.Turn.{Turn}
use Rattle.mega_outcome.specs.declared.transaction.Transaction.{Transaction}
use Rattle.mega_outcome.specs.Answers.{Refuses, is_outside, rows_at}
use Rattle.mega_outcome.specs.Outcome.{outcome}
use Rattle.mega_backup.specs.Restoring.{is_large, is_large_turn}

none_at : (found : ℕ → Option (Option Row)) → ((p : ℕ) → found p ≡ None) → row_of (version_at found 0) ≡ None
unfolding version_at
none_at found none = ap row_of (none 0)

nothing_there : (versions : Versions) → ((key : List ℕ) (p : ℕ) → versions key p ≡ None) → rows_at versions 0 ≡ no_rows
nothing_there versions none = λ i key. none_at (versions key) (none key) i

pub large_by : (s : Schema) (txn : Transaction) (versions : Versions) → ((key : List ℕ) (p : ℕ) → versions key p ≡ None) → (answer : Result Done Turn) → outcome s txn (rows_at versions 0) ≡ answer → is_large_turn answer ≡ is_large s txn
large_by s txn versions none answer is = ap is_large_turn (sym is ∙ ap (outcome s txn) (nothing_there versions none))

pub large_turn : (s : Schema) (txn : Transaction) (versions : Versions) → ((key : List ℕ) (p : ℕ) → versions key p ≡ None) → (turn : Turn) → Refuses (is_outside turn) turn (outcome s txn (rows_at versions 0)) → is_outside turn ≡ false
    → is_large_turn (Err turn) ≡ is_large s txn
large_turn s txn versions none turn refused inside = large_by s txn versions none (Err turn) (subst (λ (b : Bool). Refuses b turn (outcome s txn (rows_at versions 0))) inside refused)
