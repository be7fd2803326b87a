-- Groups in which changes of several groups are made in two phases: what requests do there, and what any list of them leaves.
use Rattle.std.specs.Prelude.{◌≡◌, ◌⊎◌, ℕ, ◌==◌, ◌&&◌, if◌then◌else◌, Bool, true, false, List, [], ◌∷◌, is_none, Option, Some, None}
use Rattle.mega_two_laws.specs.Parts.{Part, Rows, no_rows}

-- a name is the text of a change, a group its key
abbrev pub Text : Type 0
Text = List ℕ

abbrev pub same : Text → Text → Bool
same [] [] = true
same [] (y ∷ ys) = false
same (x ∷ xs) [] = false
same (x ∷ xs) (y ∷ ys) = (x == y) && same xs ys

-- whether a change is made
pub data State : Type 0 where
  Undecided : State
  Made : State
  Dropped : State

abbrev pub state_of : Bool → State
state_of true = Made
state_of false = Dropped

abbrev pub is_undecided : State → Bool
is_undecided Undecided = true
is_undecided Made = false
is_undecided Dropped = false

-- the row of a plan: its state, and its parts
pub record Plan : Type 0 where
  pub state : State
  pub parts : List Part

-- a plan before it is decided, and behind
abbrev pub new_plan : List Part → Plan
new_plan parts = record { state = Undecided; parts = parts }

abbrev pub decided_as : Bool → Plan → Plan
decided_as made plan = record { state = state_of made; parts = plan.parts }

-- the rows of plans by name; the lock row of each group, which holds a name; for each group and name the row that says how it was finished
-- there; and the rows of all other tables
pub record World : Type 0 where
  pub plans : Text → Option Plan
  pub locks : Text → Option Text
  pub dones : Text → Text → Option Bool
  pub rows : Text → Rows

abbrev pub no_world : World
no_world = record { plans = λ name. None; locks = λ group. None; dones = λ group name. None; rows = λ group. no_rows }

-- what a driver asks of a group
pub data Request : Type 0 where
  Planning : (name : Text) (parts : List Part) → Request
  Preparing : (name : Text) (part : Part) → Request
  Deciding : (name : Text) (made : Bool) → Request
  Finishing : (name : Text) (made : Bool) (part : Part) → Request
  LookingAtPlan : (name : Text) → Request
  LookingAtLock : (name : Text) (group : Text) → Request

-- what it is told: done, or turned, or the row that was looked at; or that something else came in between, that none knows, or that it is
-- not served
pub data Reply : Type 0 where
  Done : Reply
  Turned : Reply
  PlanIs : (plan : Option Plan) → Reply
  LockIs : (name : Option Text) → Reply
  Again : Reply
  Lost : Reply
  Refused : Reply

abbrev pub at : {A : Type 0} → Text → A → (Text → A) → Text → A
at key value old other = if same key other then value else old other

abbrev pub with_plan : World → Text → Plan → World
with_plan w name plan = record { plans = at name (Some plan) w.plans; locks = w.locks; dones = w.dones; rows = w.rows }

abbrev pub with_lock : World → Text → Text → World
with_lock w group name = record { plans = w.plans; locks = at group (Some name) w.locks; dones = w.dones; rows = w.rows }

abbrev pub with_done : World → Text → Text → Bool → Rows → World
with_done w group name made rows = record {
  plans = w.plans;
  locks = at group None w.locks;
  dones = at group (at name (Some made) (w.dones group)) w.dones;
  rows = at group rows w.rows;
}

-- a plan is new
abbrev pub planned : World → Text → List Part → Option Plan → World × Reply
planned w name parts None = (with_plan w name (new_plan parts), Done)
planned w name parts (Some plan) = (w, Turned)

-- a part is prepared where the group has no lock, it is not finished there, and its checks are true
abbrev pub is_free : World → Text → Part → Bool
is_free w name part = is_none (w.locks part.group) && (is_none (w.dones part.group name) && part.is_true (w.rows part.group))

abbrev pub prepared : Bool → World → Text → Part → World × Reply
prepared true w name part = (with_lock w part.group name, Done)
prepared false w name part = (w, Turned)

-- a plan is decided where it is undecided
abbrev pub decided_if : Bool → World → Text → Bool → Plan → World × Reply
decided_if true w name made plan = (with_plan w name (decided_as made plan), Done)
decided_if false w name made plan = (w, Turned)

abbrev pub decided : World → Text → Bool → Option Plan → World × Reply
decided w name made None = (w, Turned)
decided w name made (Some plan) = decided_if (is_undecided plan.state) w name made plan

-- a part is finished where the group has its lock: its writes are made or not, and the lock is gone
abbrev pub rows_behind : Bool → Part → Rows → Option Rows
rows_behind true part rows = part.written rows
rows_behind false part rows = Some rows

abbrev pub finished_with : World → Text → Bool → Part → Option Rows → World × Reply
finished_with w name made part None = (w, Turned)
finished_with w name made part (Some rows) = (with_done w part.group name made rows, Done)

abbrev pub finished : World → Text → Bool → Part → Option Text → World × Reply
finished w name made part None = (w, Turned)
finished w name made part (Some holder) =
    if same holder name then finished_with w name made part (rows_behind made part (w.rows part.group)) else (w, Turned)

-- a request run: what it leaves, and what it is told
abbrev pub run : World → Request → World × Reply
run w (Planning name parts) = planned w name parts (w.plans name)
run w (Preparing name part) = prepared (is_free w name part) w name part
run w (Deciding name made) = decided w name made (w.plans name)
run w (Finishing name made part) = finished w name made part (w.locks part.group)
run w (LookingAtPlan name) = (w, PlanIs (w.plans name))
run w (LookingAtLock name group) = (w, LockIs (w.locks group))

-- a request is run, or someone else writes rows of other tables
pub data Event : Type 0 where
  Runs : (request : Request) → Event
  Writes : (group : Text) (rows : Rows) → Event

abbrev pub with_rows : World → Text → Rows → World
with_rows w group rows = record { plans = w.plans; locks = w.locks; dones = w.dones; rows = at group rows w.rows }

-- what events leave, the newest first
abbrev pub world : List Event → World
world [] = no_world
world (Runs request ∷ before) = (run (world before) request).0
world (Writes group rows ∷ before) = with_rows (world before) group rows

-- what a request is told behind these events
abbrev pub reply : List Event → Request → Reply
reply before request = (run (world before) request).1

-- some run of the request was told this
abbrev pub Gave : List Event → Request → Reply → Type 0
Gave [] request told = ⊥
Gave (Runs other ∷ before) request told = ((other ≡ request) × (reply before other ≡ told)) ⊎ Gave before request told
Gave (Writes group rows ∷ before) request told = Gave before request told
