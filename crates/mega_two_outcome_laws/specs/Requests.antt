-- When a transaction is a request of a change: what it checks, which row it puts, and that its writes fit their group.
use Rattle.std.specs.Prelude.{◌≡◌, ℕ, Bool, true, false, List, [], ◌∷◌, ◌++◌, codes, Option, Some}
use Rattle.std.specs.List.{list_any, list_all}
use Rattle.std.specs.Result.{result_ok}
use Rattle.mega_base.specs.declared.values.Value.{Value}
use Rattle.mega_base.specs.declared.values.Value.TheVariants.{Str, Raw}
use Rattle.mega_base.specs.declared.values.Row.{Row}
use Rattle.mega_schema.specs.declared.schema.Table.{Table}
use Rattle.mega_schema.specs.declared.schema.Schema.{Schema}
use Rattle.mega_index.specs.Fits.{numbered}
use Rattle.mega_outcome.specs.declared.transaction.RowRef.{RowRef}
use Rattle.mega_outcome.specs.declared.transaction.Check.{Check}
use Rattle.mega_outcome.specs.declared.transaction.Check.TheVariants.{Gone, Is}
use Rattle.mega_outcome.specs.declared.transaction.Change.{Change}
use Rattle.mega_outcome.specs.declared.transaction.Change.TheVariants.{Put, Delete}
use Rattle.mega_outcome.specs.declared.transaction.Transaction.{Transaction}
use Rattle.mega_outcome.specs.Places.{key_in}
use Rattle.mega_outcome.specs.Checks.{may_be_in}
use Rattle.mega_schedule.specs.Values.{properties_of, property_number}
use Rattle.mega_two_laws.specs.World.{State, Undecided, state_of}
use Rattle.mega_two_driver.specs.Tables.{is_local_over, may_write}
use Rattle.mega_two_driver.specs.Fits.{table_of, write_of, transaction_fits}
use Rattle.mega_two_outcome_laws.specs.Places.{plans, locks, ends, plan_group, plan_place, lock_place, end_place}
use Rattle.mega_two_outcome_laws.specs.Changes.{deleted}
use Rattle.mega_two_outcome_laws.specs.Shown.{cell, number, plan_in, holder_in, end_in}

-- a transaction that only checks and writes
abbrev pub asking : List ℕ → List Check → List Change → Transaction
asking group checks writes = record { group = record { key = group }; checks = checks; reads = []; writes = writes; sends = [] }

-- the row with these key values
abbrev pub row : ℕ → List Value → RowRef
row n values = record { table = n; key = values }

-- the key that key values spell in this group
abbrev pub key_at : Schema → List ℕ → ℕ → List Value → Option (List ℕ)
key_at s group n values = result_ok (key_in s group 0 n values)

abbrev pub number_in : Schema → ℕ → List ℕ → ℕ
number_in s n name = property_number (properties_of (numbered s.tables n)) name

-- the put of a row of this table is a write under this key
abbrev pub PutsUnder : Schema → List ℕ → ℕ → Row → List ℕ → Type 0
PutsUnder s group n put key = write_of s group (Put n put) ≡ Some (record { key = key; row = Some put })

-- the table is there, and no local index stands over it
pub record IsBare (s : Schema) (n : ℕ) : Type 0 where
  pub table : Table
  pub there : numbered s.tables n ≡ Some table
  pub bare : list_any (is_local_over n) s.indexes ≡ false

-- ---- plans

-- it puts the plan of this line in this state
pub record PutsPlan (s : Schema) (name line : List ℕ) (state : State) (values : List Value) (put : Row) : Type 0 where
  pub tables : IsBare s (plans s)
  pub key_is : key_at s (plan_group s name) (plans s) values ≡ Some (plan_place s name)
  pub put_is : PutsUnder s (plan_group s name) (plans s) put (plan_place s name)
  pub state_is : (plan_in s put).state ≡ state
  pub line_is : cell s (plans s) (codes "plan") put ≡ Raw line ∷ []

-- where there is no plan of this name, it is put undecided
pub record IsPlanning (s : Schema) (name line : List ℕ) (txn : Transaction) : Type 0 where
  pub values : List Value
  pub put : Row
  pub is : txn ≡ asking (plan_group s name) (Gone (row (plans s) values) ∷ []) (Put (plans s) put ∷ [])
  pub puts : PutsPlan s name line Undecided values put
  pub fits : transaction_fits s txn ≡ true

-- where it is undecided, it is put as made or dropped
pub record IsDeciding (s : Schema) (name line : List ℕ) (made : Bool) (txn : Transaction) : Type 0 where
  pub values : List Value
  pub put : Row
  pub is : txn ≡ asking (plan_group s name) (Is (row (plans s) values) (number_in s (plans s) (codes "state")) (number 0) ∷ []) (Put (plans s) put ∷ [])
  pub puts : PutsPlan s name line (state_of made) values put
  pub may_be : may_be_in (numbered s.tables (plans s)) (number_in s (plans s) (codes "state")) (number 0) ≡ true
  pub fits : transaction_fits s txn ≡ true

-- ---- parts

-- where the group has no lock and no end of this change, the checks of the part's own transaction hold, and each row is there that it deletes,
-- the lock is put
pub record IsPreparing (s : Schema) (name : List ℕ) (own txn : Transaction) : Type 0 where
  pub lock_values : List Value
  pub end_values : List Value
  pub put : Row
  pub is : txn ≡ asking own.group.key (Gone (row (locks s own.group.key) lock_values) ∷ Gone (row (ends s own.group.key) end_values) ∷ (own.checks ++ deleted own.writes))
      (Put (locks s own.group.key) put ∷ [])
  pub locks_bare : IsBare s (locks s own.group.key)
  pub ends_bare : IsBare s (ends s own.group.key)
  pub lock_key : key_at s own.group.key (locks s own.group.key) lock_values ≡ Some (lock_place s own.group.key)
  pub end_key : key_at s own.group.key (ends s own.group.key) end_values ≡ Some (end_place s own.group.key name)
  pub put_is : PutsUnder s own.group.key (locks s own.group.key) put (lock_place s own.group.key)
  pub holder_is : holder_in s own.group.key put ≡ name
  pub fits : transaction_fits s txn ≡ true

-- the part's own writes, where the change is made
abbrev pub own_changes : Bool → List Change → List Change
own_changes true changes = changes
own_changes false changes = []

-- where the group is locked for the change, the part's own writes are made or not, the lock goes, and the end is put
pub record IsFinishing (s : Schema) (name : List ℕ) (made : Bool) (own txn : Transaction) : Type 0 where
  pub lock_values : List Value
  pub put : Row
  pub is : txn ≡ asking own.group.key (Is (row (locks s own.group.key) lock_values) (number_in s (locks s own.group.key) (codes "gid")) (Str name ∷ []) ∷ [])
      (own_changes made own.writes ++ Delete (row (locks s own.group.key) lock_values) ∷ Put (ends s own.group.key) put ∷ [])
  pub locks_bare : IsBare s (locks s own.group.key)
  pub ends_bare : IsBare s (ends s own.group.key)
  pub own_free : list_all (λ change. may_write s own.group.key (table_of change)) own.writes ≡ true
  pub lock_key : key_at s own.group.key (locks s own.group.key) lock_values ≡ Some (lock_place s own.group.key)
  pub put_is : PutsUnder s own.group.key (ends s own.group.key) put (end_place s own.group.key name)
  pub end_is : end_in s own.group.key put ≡ made
  pub may_be : may_be_in (numbered s.tables (locks s own.group.key)) (number_in s (locks s own.group.key) (codes "gid")) (Str name ∷ []) ≡ true
  pub fits : transaction_fits s txn ≡ true
