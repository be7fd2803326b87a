-- What a driver asks, and how it goes on by what it is told.
use Rattle.std.specs.Prelude.{◌≡◌, ◌⊎◌, if◌then◌else◌, Bool, true, false, List, [], ◌∷◌, Option, Some, None}
use Rattle.mega_two_laws.specs.Parts.{Part}
use Rattle.mega_two_laws.specs.World.{Text, same, State, Undecided, Made, Dropped, Plan, Request, Planning, Preparing, Deciding, Finishing, LookingAtPlan, LookingAtLock, Reply, Done, Turned, PlanIs, LockIs, Again, Lost, Refused, Event, Runs, Writes, Gave}

pub data Ending : Type 0 where
  Committed : Ending
  Aborted : Ending
  Used : Ending
  Open : Ending

-- where a driver is: it plans; it prepares these parts; it decides, or looks how the plan was decided; it finishes these parts, or looks at
-- the lock of the first; it looks for a plan that another driver began; it ended
pub data Phase : Type 0 where
  Begins : Phase
  Prepares : (parts : List Part) → Phase
  Decides : (made : Bool) → Phase
  Looks : (made : Bool) → Phase
  Finishes : (made : Bool) (parts : List Part) → Phase
  Checks : (made : Bool) (parts : List Part) → Phase
  Recovers : Phase
  Ended : (ending : Ending) → Phase

pub record Driver : Type 0 where
  pub name : Text
  pub parts : List Part
  pub phase : Phase

-- the present request
abbrev pub asked : Text → List Part → Phase → Option Request
asked name parts Begins = Some (Planning name parts)
asked name parts (Prepares []) = None
asked name parts (Prepares (part ∷ later)) = Some (Preparing name part)
asked name parts (Decides made) = Some (Deciding name made)
asked name parts (Looks made) = Some (LookingAtPlan name)
asked name parts (Finishes made []) = None
asked name parts (Finishes made (part ∷ later)) = Some (Finishing name made part)
asked name parts (Checks made []) = None
asked name parts (Checks made (part ∷ later)) = Some (LookingAtLock name part.group)
asked name parts Recovers = Some (LookingAtPlan name)
asked name parts (Ended ending) = None

abbrev pub asks : Driver → Option Request
asks d = asked d.name d.parts d.phase

-- the parts that are left are prepared, and then the change is made
abbrev pub preparing : List Part → Phase
preparing [] = Decides true
preparing (part ∷ parts) = Prepares (part ∷ parts)

abbrev pub ending_of : Bool → Ending
ending_of true = Committed
ending_of false = Aborted

-- the parts that are left are finished
abbrev pub finishing : Bool → List Part → Phase
finishing made [] = Ended (ending_of made)
finishing made (part ∷ parts) = Finishes made (part ∷ parts)

-- a plan that is decided is finished; an undecided one is decided so
abbrev pub by_state : Bool → List Part → State → Phase
by_state made parts Undecided = Decides made
by_state made parts Made = finishing true parts
by_state made parts Dropped = finishing false parts

abbrev pub by_plan : Bool → List Part → Option Plan → Phase
by_plan made parts None = Ended Open
by_plan made parts (Some plan) = by_state made parts plan.state

-- a part whose lock is still held is finished again
abbrev pub by_lock : Text → Bool → Part → List Part → Option Text → Phase
by_lock name made part later None = finishing made later
by_lock name made part later (Some holder) = if same holder name then Finishes made (part ∷ later) else finishing made later

-- how it goes on
abbrev pub moved : Text → List Part → Phase → Reply → Phase
moved name parts Begins Done = preparing parts
moved name parts Begins Turned = Ended Used
moved name parts Begins (PlanIs plan) = Begins
moved name parts Begins (LockIs holder) = Begins
moved name parts Begins Again = Begins
moved name parts Begins Lost = Ended Open
moved name parts Begins Refused = Ended Open
moved name parts (Prepares []) told = Prepares []
moved name parts (Prepares (part ∷ later)) Done = preparing later
moved name parts (Prepares (part ∷ later)) Turned = Decides false
moved name parts (Prepares (part ∷ later)) (PlanIs plan) = Prepares (part ∷ later)
moved name parts (Prepares (part ∷ later)) (LockIs holder) = Prepares (part ∷ later)
moved name parts (Prepares (part ∷ later)) Again = Prepares (part ∷ later)
moved name parts (Prepares (part ∷ later)) Lost = Decides false
moved name parts (Prepares (part ∷ later)) Refused = Ended Open
moved name parts (Decides made) Done = finishing made parts
moved name parts (Decides made) Turned = Looks made
moved name parts (Decides made) (PlanIs plan) = Decides made
moved name parts (Decides made) (LockIs holder) = Decides made
moved name parts (Decides made) Again = Decides made
moved name parts (Decides made) Lost = Looks made
moved name parts (Decides made) Refused = Ended Open
moved name parts (Looks made) Done = Looks made
moved name parts (Looks made) Turned = Looks made
moved name parts (Looks made) (PlanIs plan) = by_plan made parts plan
moved name parts (Looks made) (LockIs holder) = Looks made
moved name parts (Looks made) Again = Looks made
moved name parts (Looks made) Lost = Looks made
moved name parts (Looks made) Refused = Ended Open
moved name parts (Finishes made []) told = Finishes made []
moved name parts (Finishes made (part ∷ later)) Done = finishing made later
moved name parts (Finishes made (part ∷ later)) Turned = Checks made (part ∷ later)
moved name parts (Finishes made (part ∷ later)) (PlanIs plan) = Finishes made (part ∷ later)
moved name parts (Finishes made (part ∷ later)) (LockIs holder) = Finishes made (part ∷ later)
moved name parts (Finishes made (part ∷ later)) Again = Finishes made (part ∷ later)
moved name parts (Finishes made (part ∷ later)) Lost = Checks made (part ∷ later)
moved name parts (Finishes made (part ∷ later)) Refused = Ended Open
moved name parts (Checks made []) told = Checks made []
moved name parts (Checks made (part ∷ later)) Done = Checks made (part ∷ later)
moved name parts (Checks made (part ∷ later)) Turned = Checks made (part ∷ later)
moved name parts (Checks made (part ∷ later)) (PlanIs plan) = Checks made (part ∷ later)
moved name parts (Checks made (part ∷ later)) (LockIs holder) = by_lock name made part later holder
moved name parts (Checks made (part ∷ later)) Again = Checks made (part ∷ later)
moved name parts (Checks made (part ∷ later)) Lost = Checks made (part ∷ later)
moved name parts (Checks made (part ∷ later)) Refused = Ended Open
moved name parts Recovers Done = Recovers
moved name parts Recovers Turned = Recovers
moved name parts Recovers (PlanIs plan) = by_plan false parts plan
moved name parts Recovers (LockIs holder) = Recovers
moved name parts Recovers Again = Recovers
moved name parts Recovers Lost = Recovers
moved name parts Recovers Refused = Ended Open
moved name parts (Ended ending) told = Ended ending

-- a driver that recovers learns the parts from the plan that it reads
abbrev pub parts_read : List Part → Phase → Reply → List Part
parts_read parts Recovers (PlanIs (Some plan)) = plan.parts
parts_read parts Recovers (PlanIs None) = parts
parts_read parts _ _ = parts

abbrev pub next : Driver → Reply → Driver
next d told = record { name = d.name; parts = parts_read d.parts d.phase told; phase = moved d.name (parts_read d.parts d.phase told) d.phase told }

-- no group stands twice among parts
abbrev pub IsNew : Text → List Part → Type 0
IsNew group [] = Unit {0}
IsNew group (part ∷ parts) = (same group part.group ≡ false) × IsNew group parts

abbrev pub AreApart : List Part → Type 0
AreApart [] = Unit {0}
AreApart (part ∷ parts) = IsNew part.group parts × AreApart parts

-- what a driver may be told at any time: that something came in between, that none knows, or that it is not served
abbrev pub is_free_reply : Reply → Bool
is_free_reply Done = false
is_free_reply Turned = false
is_free_reply (PlanIs plan) = false
is_free_reply (LockIs holder) = false
is_free_reply Again = true
is_free_reply Lost = true
is_free_reply Refused = true

-- or what some run of its request was told
abbrev pub MayReply : List Event → Option Request → Reply → Type 0
MayReply events None told = ⊥
MayReply events (Some request) told = (is_free_reply told ≡ true) ⊎ Gave events request told

-- a driver may be there behind these events: it begins a change of parts with different groups, or recovers one, and is told one thing after
-- another
pub data IsReachable (events : List Event) : Driver → Type 0 where
  begins : (name : Text) (parts : List Part) → AreApart parts → IsReachable events (record { name = name; parts = parts; phase = Begins })
  recovers : (name : Text) → IsReachable events (record { name = name; parts = []; phase = Recovers })
  goes_on : (d : Driver) (told : Reply) → IsReachable events d → MayReply events (asks d) told → IsReachable events (next d told)

-- each request that is run was asked by some driver, and may be run any number of times at any later moment; any number of drivers, which stop
-- wherever they are, ask at their pace
abbrev pub IsHistory : List Event → Type 0
IsHistory [] = Unit {0}
IsHistory (Runs request ∷ before) = ((d : Driver) × IsReachable before d × (asks d ≡ Some request)) × IsHistory before
IsHistory (Writes group rows ∷ before) = IsHistory before
