-- A put that is added to those that were found before it.
use Rattle.std.proofs.Common.{◌≡◌, ℕ, Bool, false, if◌then◌else◌, List, [], ◌∷◌, ◌++◌, Result, Ok, Err, Some, refl, ap, sym, ◌∙◌, append_assoc}
use Rattle.std.specs.Prelude.{OnOk, OnErr}
use Rattle.mega_schema.specs.declared.schema.Schema.{Schema}
use Rattle.mega_outcome.specs.declared.transaction.Transaction.{Transaction}
use Rattle.mega_backup.specs.declared.fault.BackupFault.{BackupFault}
use Rattle.mega_backup.specs.declared.fault.BackupFault.TheVariants.{Short, Malformed, TooLarge, SinkFault, NoMemory}
use Rattle.mega_backup.specs.Restoring.{AddsPut, is_large, prepended, put_before}

abbrev either : Transaction → List ℕ → Result (List Transaction) (List ℕ) → Bool → Result (List Transaction) (List ℕ)
either txn key more large = if large then Err key else put_before txn more

behind : (old new : List Transaction) (txn : Transaction) → new ≡ old ++ txn ∷ [] → (more : Result (List Transaction) (List ℕ)) → prepended old (put_before txn more) ≡ prepended new more
behind old new txn is (Err large) = refl
behind old new txn is (Ok txns) = ap Ok (sym (append_assoc old (txn ∷ []) txns) ∙ ap (λ before. before ++ txns) (sym is))

pub added : (s : Schema) (key : List ℕ) (txn : Transaction) (old new : List Transaction) (result : Result (Unit {0}) BackupFault) → false ≡ is_large s txn → OnOk result (new ≡ old ++ txn ∷ []) → OnErr result (result ≡ Err NoMemory)
    → AddsPut s key (Some txn) old new result
added s key txn old new (Ok _) small put memory = λ more. ap (λ large. prepended old (either txn key more large)) (sym small) ∙ behind old new txn put more
added s key txn old new (Err (Short has)) small put memory = absurd (cc)
added s key txn old new (Err (Malformed line)) small put memory = absurd (cc)
added s key txn old new (Err (TooLarge large)) small put memory = absurd (cc)
added s key txn old new (Err SinkFault) small put memory = absurd (cc)
added s key txn old new (Err NoMemory) small put memory = tt
