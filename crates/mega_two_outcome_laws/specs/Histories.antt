-- What happens to the stores of all groups: requests that drivers ask are run on them, and others write rows that are not of changes.
use Rattle.std.specs.Prelude.{◌≡◌, ℕ, true, List, [], ◌∷◌, Some, None}
use Rattle.mega_schema.specs.declared.schema.Schema.{Schema}
use Rattle.mega_outcome.specs.declared.transaction.Transaction.{Transaction}
use Rattle.mega_two_laws.specs.Parts.{Part, Rows}
use Rattle.mega_two_laws.specs.World.{Text, at, with_rows, Request, Planning, Preparing, Deciding, Finishing, LookingAtPlan, LookingAtLock, Event, Runs, Writes}
use Rattle.mega_two_laws.specs.Driver.{Driver, IsReachable, asks}
use Rattle.mega_two_driver.specs.Lines.{is_name}
use Rattle.mega_two_outcome_laws.specs.Changes.{part_by, parts_of}
use Rattle.mega_two_outcome_laws.specs.Shown.{Stores, shown}
use Rattle.mega_two_outcome_laws.specs.Runs.{behind}
use Rattle.mega_two_outcome_laws.specs.Requests.{IsPlanning, IsPreparing, IsDeciding, IsFinishing}

-- a request is run by its transaction; a plan or a lock is looked at; or someone else leaves a group with these rows
pub data Happening : Type 0 where
  Ran : (request : Request) (txn : Transaction) → Happening
  Seen : (request : Request) → Happening
  Wrote : (group : Text) (rows : Rows) → Happening

abbrev pub no_stores : Stores
no_stores group key = None

-- the rows behind what happened, the newest first
abbrev pub stores_of : Schema → List Happening → Stores
stores_of s [] = no_stores
stores_of s (Ran request txn ∷ before) = behind s txn (stores_of s before)
stores_of s (Seen request ∷ before) = stores_of s before
stores_of s (Wrote group rows ∷ before) = at group rows (stores_of s before)

-- the same in the world of all groups: behind a request the group has the rows that the store has
abbrev pub events_of : Schema → List Happening → List Event
events_of s [] = []
events_of s (Ran request txn ∷ before) = Writes txn.group.key (behind s txn (stores_of s before) txn.group.key) ∷ Runs request ∷ events_of s before
events_of s (Seen request ∷ before) = Runs request ∷ events_of s before
events_of s (Wrote group rows ∷ before) = Writes group rows ∷ events_of s before

-- the transaction is this request of a change of these parts
abbrev pub IsRequest : Schema → List Part → Request → Transaction → Type 0
IsRequest s parts (Planning name told) txn = (line : List ℕ) × (told ≡ parts_of s line) × IsPlanning s name line txn
IsRequest s parts (Preparing name part) txn = (own : Transaction) × (part ≡ part_by own s) × IsPreparing s name own txn
IsRequest s parts (Deciding name made) txn = (line : List ℕ) × (parts ≡ parts_of s line) × IsDeciding s name line made txn
IsRequest s parts (Finishing name made part) txn = (own : Transaction) × (part ≡ part_by own s) × (is_name name ≡ true) × IsFinishing s name made own txn
IsRequest s parts (LookingAtPlan name) txn = ⊥
IsRequest s parts (LookingAtLock name group) txn = ⊥

abbrev pub IsLook : Request → Type 0
IsLook (Planning name told) = ⊥
IsLook (Preparing name part) = ⊥
IsLook (Deciding name made) = ⊥
IsLook (Finishing name made part) = ⊥
IsLook (LookingAtPlan name) = Unit {0}
IsLook (LookingAtLock name group) = Unit {0}

-- no plan, no lock and no end is another
abbrev pub LeavesChanges : Schema → Stores → Text → Rows → Type 0
LeavesChanges s stores group rows = shown s (at group rows stores) ≡ with_rows (shown s stores) group rows

-- each request was asked by some driver, which was told what runs of its requests came to, and may be run any number of times at any later
-- moment
abbrev pub AreHappenings : Schema → List Happening → Type 0
AreHappenings s [] = Unit {0}
AreHappenings s (Ran request txn ∷ before) =
    ((d : Driver) × IsReachable (events_of s before) d × (asks d ≡ Some request) × IsRequest s d.parts request txn) × AreHappenings s before
AreHappenings s (Seen request ∷ before) = ((d : Driver) × IsReachable (events_of s before) d × (asks d ≡ Some request) × IsLook request) × AreHappenings s before
AreHappenings s (Wrote group rows ∷ before) = LeavesChanges s (stores_of s before) group rows × AreHappenings s before
