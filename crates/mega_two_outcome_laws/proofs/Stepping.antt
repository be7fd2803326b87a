-- When what a transaction comes to is a step.
use Rattle.std.proofs.Common.{◌≡◌, ℕ, List, refl, sym, ap, ◌∙◌, subst, Option, Some, None}
use Rattle.mega_entry.specs.declared.content.Write.{Write}
use Rattle.mega_schema.specs.declared.schema.Schema.{Schema}
use Rattle.mega_outcome.specs.declared.transaction.Transaction.{Transaction}
use Rattle.mega_two_laws.specs.World.{Text, same, World, with_rows, Request, Reply, Done, Turned, run}
use Rattle.mega_two_outcome_laws.specs.Places.{plan_place, lock_place, end_place}
use Rattle.mega_two_outcome_laws.specs.Shown.{Stores, shown}
use Rattle.mega_two_outcome_laws.specs.Runs.{stores_with, told, writes_of, IsStep}
use Rattle.mega_two_outcome_laws.proofs.Kept.{moved, rows_moved, Alike, alike}

-- what is done is known
pub record IsStepBy (s : Schema) (group : List ℕ) (name : Text) (request : Request) (stores : Stores) (done : Option (List Write)) : Type 0 where
  pub told_so : told done ≡ (run (shown s stores) request).1
  pub shows : shown s (stores_with group stores done) ≡ with_rows (run (shown s stores) request).0 group (stores_with group stores done group)
  pub others : (key : List ℕ) → (key ≡ plan_place s name → ⊥) → (key ≡ lock_place s group → ⊥) → (key ≡ end_place s group name → ⊥)
      → stores_with group stores done group key ≡ ((run (shown s stores) request).0).rows group key

pub step_by : (s : Schema) (txn : Transaction) (name : Text) (request : Request) (stores : Stores) (made : Option (List Write)) → writes_of s txn stores ≡ made
    → IsStepBy s txn.group.key name request stores made → IsStep s txn name request stores
step_by s txn name request stores made e h =
    let k = subst (IsStepBy s txn.group.key name request stores) (sym e) h in
    record { told_so = k.told_so; shows = k.shows; others = k.others }

pub turned_step : (s : Schema) (group : List ℕ) (name : Text) (request : Request) (stores : Stores) → run (shown s stores) request ≡ (shown s stores, Turned) → IsStepBy s group name request stores None
turned_step s group name request stores e = record {
  told_so = sym (ap (λ p. p.1) e);
  shows = alike _ _ (record { plans = λ n. refl; locks = λ g. refl; dones = λ g n. refl; rows = rows_moved group stores stores stores (λ other is. refl) (λ other is. refl) })
      ∙ ap (λ (p : World × Reply). with_rows p.0 group (stores group)) (sym e);
  others = λ key a b d. ap (λ (p : World × Reply). (p.0).rows group key) (sym e);
}

pub done_step : (s : Schema) (group : List ℕ) (name : Text) (request : Request) (stores : Stores) (writes : List Write) (next : World) → run (shown s stores) request ≡ (next, Done)
    → Alike (shown s (moved group stores writes)) (with_rows next group (moved group stores writes group))
    → ((key : List ℕ) → (key ≡ plan_place s name → ⊥) → (key ≡ lock_place s group → ⊥) → (key ≡ end_place s group name → ⊥) → moved group stores writes group key ≡ next.rows group key)
    → IsStepBy s group name request stores (Some writes)
done_step s group name request stores writes next e same others = record {
  told_so = sym (ap (λ p. p.1) e);
  shows = alike _ _ same ∙ ap (λ (p : World × Reply). with_rows p.0 group (moved group stores writes group)) (sym e);
  others = λ key a b d. others key a b d ∙ ap (λ (p : World × Reply). (p.0).rows group key) (sym e);
}
