-- A transaction run on the rows of its group, and when that is the step of a request.
use Rattle.std.specs.Prelude.{◌≡◌, ℕ, List, Option, Some, None, Result, Ok, Err}
use Rattle.mega_entry.specs.declared.content.Write.{Write}
use Rattle.mega_schema.specs.declared.schema.Schema.{Schema}
use Rattle.mega_index.specs.Rows.{written}
use Rattle.mega_outcome.specs.declared.answer.Turn.{Turn}
use Rattle.mega_outcome.specs.declared.answer.Done.{Done}
use Rattle.mega_outcome.specs.declared.transaction.Transaction.{Transaction}
use Rattle.mega_outcome.specs.Outcome.{outcome}
use Rattle.mega_two_laws.specs.World.{Text, at, Request, Reply, Done as IsDone, Turned, with_rows, run}
use Rattle.mega_two_outcome_laws.specs.Places.{plan_place, lock_place, end_place}
use Rattle.mega_two_outcome_laws.specs.Shown.{Stores, shown}

-- its writes, where it is done
abbrev pub writes_in : Result Done Turn → Option (List Write)
writes_in (Ok done) = Some done.writes
writes_in (Err turn) = None

abbrev pub stores_with : List ℕ → Stores → Option (List Write) → Stores
stores_with group stores None = stores
stores_with group stores (Some writes) = at group (written writes (stores group)) stores

abbrev pub told : Option (List Write) → Reply
told None = Turned
told (Some writes) = IsDone

-- run by `outcome` on the rows of its group
abbrev pub writes_of : Schema → Transaction → Stores → Option (List Write)
writes_of s txn stores = writes_in (outcome s txn (stores txn.group.key))

abbrev pub behind : Schema → Transaction → Stores → Stores
behind s txn stores = stores_with txn.group.key stores (writes_of s txn stores)

-- it is the step of this request, by a change with this name: it is done or turned as the request is; what the stores show of plans, locks and
-- ends behind it is what the request leaves; and under all keys but those of its own plan, lock and end stand the rows that the request leaves
pub record IsStep (s : Schema) (txn : Transaction) (name : Text) (request : Request) (stores : Stores) : Type 0 where
  pub told_so : told (writes_of s txn stores) ≡ (run (shown s stores) request).1
  pub shows : shown s (behind s txn stores) ≡ with_rows (run (shown s stores) request).0 txn.group.key (behind s txn stores txn.group.key)
  pub others : (key : List ℕ) → (key ≡ plan_place s name → ⊥) → (key ≡ lock_place s txn.group.key → ⊥) → (key ≡ end_place s txn.group.key name → ⊥)
      → behind s txn stores txn.group.key key ≡ ((run (shown s stores) request).0).rows txn.group.key key
