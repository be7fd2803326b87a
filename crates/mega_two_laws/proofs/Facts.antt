-- What a history keeps of one change, whatever was run.
use Rattle.std.proofs.Common.{◌≡◌, ◌⊎◌, Bool, true, false, List, Option, Some}
use Rattle.mega_two_laws.specs.Parts.{Part}
use Rattle.mega_two_laws.specs.World.{Text, Undecided, Made, Plan, state_of, World, Request, Planning, Preparing, Deciding, Finishing, LookingAtPlan, LookingAtLock, Done, PlanIs, Event, Gave}
use Rattle.mega_two_laws.specs.Driver.{AreApart}
use Rattle.mega_two_laws.specs.Atomic.{In, count, decides, writes}

-- a plan that was seen went on: its parts are the same, and it is decided as it was
pub record GoesOn (now : Option Plan) (seen : Plan) : Type 0 where
  pub plan : Plan
  pub stands : now ≡ Some plan
  pub parts : plan.parts ≡ seen.parts
  pub state : (seen.state ≡ Undecided) ⊎ (plan.state ≡ seen.state)

-- the plan is decided so
pub record Decided (now : Option Plan) (made : Bool) : Type 0 where
  pub plan : Plan
  pub stands : now ≡ Some plan
  pub state : plan.state ≡ state_of made

-- it is a part of the plan
pub record PartOf (now : Option Plan) (part : Part) : Type 0 where
  pub plan : Plan
  pub stands : now ≡ Some plan
  pub part_of : In part plan.parts

-- a part of the plan was finished in the group, as the plan is decided
pub record Finished (now : Option Plan) (events : List Event) (me group : Text) (made : Bool) : Type 0 where
  pub plan : Plan
  pub stands : now ≡ Some plan
  pub state : plan.state ≡ state_of made
  pub part : Part
  pub part_of : In part plan.parts
  pub place : part.group ≡ group
  pub gave : Gave events (Finishing me made part) Done

pub record Facts (w : World) (events : List Event) (me : Text) : Type 0 where
  pub apart : (p : Plan) → w.plans me ≡ Some p → AreApart p.parts
  pub planned : (parts : List Part) → Gave events (Planning me parts) Done → (p : Plan) × (w.plans me ≡ Some p) × (p.parts ≡ parts)
  pub prepared : (p : Plan) → w.plans me ≡ Some p → p.state ≡ Made → (part : Part) → In part p.parts → Gave events (Preparing me part) Done
  pub locked : (part : Part) → Gave events (Preparing me part) Done → (w.locks part.group ≡ Some me) ⊎ ((made : Bool) × (w.dones part.group me ≡ Some made))
  pub free : (group : Text) (made : Bool) → w.dones group me ≡ Some made → w.locks group ≡ Some me → ⊥
  pub finished : (group : Text) (made : Bool) → w.dones group me ≡ Some made → Finished (w.plans me) events me group made
  pub done : (made : Bool) (part : Part) → Gave events (Finishing me made part) Done → (w.dones part.group me ≡ Some made) × PartOf (w.plans me) part
  pub decided : (made : Bool) → Gave events (Deciding me made) Done → Decided (w.plans me) made
  pub shown : (p : Plan) → Gave events (LookingAtPlan me) (PlanIs (Some p)) → GoesOn (w.plans me) p
  pub once : (count (decides me) events ≡ 0) ⊎ ((count (decides me) events ≡ 1) × ((made : Bool) × Decided (w.plans me) made))
  pub written : (group : Text) → (count (writes me group) events ≡ 0) ⊎ ((count (writes me group) events ≡ 1) × (w.dones group me ≡ Some true))

-- the change that a request belongs to
abbrev pub name_of : Request → Text
name_of (Planning name parts) = name
name_of (Preparing name part) = name
name_of (Deciding name made) = name
name_of (Finishing name made part) = name
name_of (LookingAtPlan name) = name
name_of (LookingAtLock name group) = name

-- what a request stands on when it is asked
abbrev pub Ready : World → List Event → Request → Type 0
Ready w events (Planning name parts) = AreApart parts
Ready w events (Preparing name part) = Unit {0}
Ready w events (Deciding name true) = (p : Plan) → w.plans name ≡ Some p → (part : Part) → In part p.parts → Gave events (Preparing name part) Done
Ready w events (Deciding name false) = Unit {0}
Ready w events (Finishing name made part) = (p : Plan) × (w.plans name ≡ Some p) × (p.state ≡ state_of made) × In part p.parts
Ready w events (LookingAtPlan name) = Unit {0}
Ready w events (LookingAtLock name group) = Unit {0}
