-- What holds of a change of several groups: it is made whole or not at all.
use Rattle.std.specs.Prelude.{◌≡◌, ◌⊎◌, ℕ, ◌+◌, ◌≤◌, ◌&&◌, if◌then◌else◌, Bool, true, false, List, [], ◌∷◌, Some}
use Rattle.mega_two_laws.specs.Parts.{Part}
use Rattle.mega_two_laws.specs.World.{Text, same, State, Made, Dropped, Plan, Request, Planning, Preparing, Deciding, Finishing, LookingAtPlan, LookingAtLock, Reply, Done, Turned, PlanIs, LockIs, Again, Lost, Refused, Event, Runs, Writes, world, reply, Gave}
use Rattle.mega_two_laws.specs.Driver.{Ending, Committed, Aborted, Used, Open}

abbrev pub In : Part → List Part → Type 0
In part [] = ⊥
In part (other ∷ parts) = (other ≡ part) ⊎ In part parts

abbrev pub is_done : Reply → Bool
is_done Done = true
is_done Turned = false
is_done (PlanIs plan) = false
is_done (LockIs holder) = false
is_done Again = false
is_done Lost = false
is_done Refused = false

-- how many runs of requests that pass a test were done
abbrev pub count : (Request → Bool) → List Event → ℕ
count test [] = 0
count test (Runs request ∷ before) = (if test request && is_done (reply before request) then 1 else 0) + count test before
count test (Writes group rows ∷ before) = count test before

-- it decides this change, in either way
abbrev pub decides : Text → Request → Bool
decides name (Planning other parts) = false
decides name (Preparing other part) = false
decides name (Deciding other made) = same other name
decides name (Finishing other made part) = false
decides name (LookingAtPlan other) = false
decides name (LookingAtLock other group) = false

-- it makes the writes of this change in this group
abbrev pub writes : Text → Text → Request → Bool
writes name group (Planning other parts) = false
writes name group (Preparing other part) = false
writes name group (Deciding other made) = false
writes name group (Finishing other made part) = made && (same other name && same part.group group)
writes name group (LookingAtPlan other) = false
writes name group (LookingAtLock other at) = false

-- the plan stands there as made
pub record IsMade (events : List Event) (name : Text) (plan : Plan) : Type 0 where
  pub stands : (world events).plans name ≡ Some plan
  pub made : plan.state ≡ Made

pub record IsAtomic (events : List Event) (name : Text) : Type 0 where
  -- its plan is decided at most once
  pub once : count (decides name) events ≤ 1
  -- it is made only where each part was prepared, its checks true
  pub prepared : (plan : Plan) → IsMade events name plan → (part : Part) → In part plan.parts → Gave events (Preparing name part) Done
  -- the writes of a part are made at most once, and only where the plan is made
  pub written_once : (group : Text) → count (writes name group) events ≤ 1
  pub written_after : (part : Part) → Gave events (Finishing name true part) Done → (plan : Plan) × IsMade events name plan × In part plan.parts
  -- where it is made, each part is locked for it, or its writes were made
  pub held : (plan : Plan) → IsMade events name plan → (part : Part) → In part plan.parts → ((world events).locks part.group ≡ Some name) ⊎ Gave events (Finishing name true part) Done
  -- and no part is finished without them
  pub never_dropped : (plan : Plan) → IsMade events name plan → (part : Part) → Gave events (Finishing name false part) Done → ⊥

-- ---- how drivers end

-- the plan stands in this state
pub record StandsAs (events : List Event) (name : Text) (state : State) : Type 0 where
  pub plan : Plan
  pub stands : (world events).plans name ≡ Some plan
  pub state_is : plan.state ≡ state

-- a driver that ended as committed or aborted ended as the plan is decided
abbrev pub EndsTruly : List Event → Text → Ending → Type 0
EndsTruly events name Committed = StandsAs events name Made
EndsTruly events name Aborted = StandsAs events name Dropped
EndsTruly events name Used = Unit {0}
EndsTruly events name Open = Unit {0}
