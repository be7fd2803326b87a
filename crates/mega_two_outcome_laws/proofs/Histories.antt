-- What happens to the stores is a history of the world that they show.
use Rattle.std.proofs.Common.{◌≡◌, Bool, List, [], ◌∷◌, refl, sym, ap, ◌∙◌, subst, Option, Some}
use Rattle.mega_schema.specs.declared.schema.Schema.{Schema}
use Rattle.mega_outcome.specs.declared.transaction.Transaction.{Transaction}
use Rattle.mega_two_laws.specs.Parts.{Part}
use Rattle.mega_two_laws.specs.World.{Text, Plan, World, with_rows, Request, Planning, Preparing, Deciding, Finishing, LookingAtPlan, LookingAtLock, run, Event, world}
use Rattle.mega_two_laws.specs.Driver.{Phase, Begins, Prepares, Decides, Looks, Finishes, Checks, Recovers, Ended, IsReachable, asked, IsHistory}
use Rattle.mega_two_laws.specs.Atomic.{IsAtomic}
use Rattle.mega_two_laws.proofs.History.{fit_of}
use Rattle.mega_two_laws.proofs.Whole.{facts_of, changes_atomic}
use Rattle.mega_two_outcome_laws.specs.Shown.{Stores, shown}
use Rattle.mega_two_outcome_laws.specs.Runs.{behind, IsStep}
use Rattle.mega_two_outcome_laws.specs.Histories.{Happening, Ran, Seen, Wrote, stores_of, events_of, IsRequest, IsLook, AreHappenings}
use Rattle.mega_two_outcome_laws.proofs.Requested.{planned_so, decided_so, prepared_so, finished_so}

-- ---- a history

pub history_of : (s : Schema) (h : List Happening) → AreHappenings s h → IsHistory (events_of s h)
history_of s [] ok = tt
history_of s (Ran request txn ∷ before) ok = (((ok.0).0, (ok.0).1, (ok.0).2), history_of s before ok.1)
history_of s (Seen request ∷ before) ok = (((ok.0).0, (ok.0).1, (ok.0).2), history_of s before ok.1)
history_of s (Wrote group rows ∷ before) ok = history_of s before ok.1

-- ---- a driver that decides knows the parts of the plan that stands

other_parts : (p q : Plan) → ◌≡◌ {A = Option Plan} (Some p) (Some q) → p.parts ≡ q.parts
other_parts p q e = cc

pub decider_knows : (events : List Event) → IsHistory events → (name : Text) (parts : List Part) (phase : Phase) → IsReachable events (record { name = name; parts = parts; phase = phase })
    → (asked_name : Text) (made : Bool) → asked name parts phase ≡ Some (Deciding asked_name made) → (plan : Plan) → (world events).plans asked_name ≡ Some plan → plan.parts ≡ parts
decider_knows events history name parts Begins there n made e plan stands = absurd (cc)
decider_knows events history name parts (Prepares []) there n made e plan stands = absurd (cc)
decider_knows events history name parts (Prepares (part ∷ later)) there n made e plan stands = absurd (cc)
decider_knows events history name parts (Decides b) there n made e plan stands =
    let fit = fit_of events (facts_of events history) (record { name = name; parts = parts; phase = Decides b }) there in
    let same_name : name ≡ n = cc in
    other_parts plan (fit.0).0 (sym stands ∙ ap (world events).plans (sym same_name) ∙ (fit.0).1) ∙ (fit.0).2
decider_knows events history name parts (Looks b) there n made e plan stands = absurd (cc)
decider_knows events history name parts (Finishes b []) there n made e plan stands = absurd (cc)
decider_knows events history name parts (Finishes b (part ∷ later)) there n made e plan stands = absurd (cc)
decider_knows events history name parts (Checks b []) there n made e plan stands = absurd (cc)
decider_knows events history name parts (Checks b (part ∷ later)) there n made e plan stands = absurd (cc)
decider_knows events history name parts Recovers there n made e plan stands = absurd (cc)
decider_knows events history name parts (Ended ending) there n made e plan stands = absurd (cc)

-- ---- each request is its step

-- a request of the change with this name
abbrev name_in : Request → Text
name_in (Planning name told) = name
name_in (Preparing name part) = name
name_in (Deciding name made) = name
name_in (Finishing name made part) = name
name_in (LookingAtPlan name) = name
name_in (LookingAtLock name group) = name

step_of : (s : Schema) (stores : Stores) (parts : List Part) (request : Request) (txn : Transaction) → IsRequest s parts request txn
    → ((name : Text) (made : Bool) → request ≡ Deciding name made → (plan : Plan) → (shown s stores).plans name ≡ Some plan → plan.parts ≡ parts) → IsStep s txn (name_in request) request stores
step_of s stores parts (Planning name told) txn is knows = subst (λ ps. IsStep s txn name (Planning name ps) stores) (sym is.1) (planned_so s name is.0 txn stores is.2)
step_of s stores parts (Preparing name part) txn is knows = subst (λ p. IsStep s txn name (Preparing name p) stores) (sym is.1) (prepared_so s name is.0 txn stores is.2)
step_of s stores parts (Deciding name made) txn is knows = decided_so s name is.0 made txn stores is.2 (λ plan stands. knows name made refl plan stands ∙ is.1)
step_of s stores parts (Finishing name made part) txn is knows =
    subst (λ p. IsStep s txn name (Finishing name made p) stores) (sym is.1) (finished_so s name made is.0 txn stores is.2 is.3)
step_of s stores parts (LookingAtPlan name) txn is knows = absurd is
step_of s stores parts (LookingAtLock name group) txn is knows = absurd is

looked : (w : World) (request : Request) → IsLook request → (run w request).0 ≡ w
looked w (Planning name told) is = absurd is
looked w (Preparing name part) is = absurd is
looked w (Deciding name made) is = absurd is
looked w (Finishing name made part) is = absurd is
looked w (LookingAtPlan name) is = refl
looked w (LookingAtLock name group) is = refl

pub world_of : (s : Schema) (h : List Happening) → AreHappenings s h → world (events_of s h) ≡ shown s (stores_of s h)
world_of s [] ok = refl
world_of s (Ran request txn ∷ before) ok =
    let stores = stores_of s before in
    let same = world_of s before ok.1 in
    let driver = (ok.0).0 in
    let step = step_of s stores driver.parts request txn (ok.0).3
    (λ name made is plan stands. decider_knows (events_of s before) (history_of s before ok.1) driver.name driver.parts driver.phase (ok.0).1 name made ((ok.0).2 ∙ ap Some is) plan (ap (λ (w : World). w.plans name) same ∙ stands)) in
    ap (λ w. with_rows (run w request).0 txn.group.key (behind s txn stores txn.group.key)) same ∙ sym step.shows
world_of s (Seen request ∷ before) ok = looked (world (events_of s before)) request (ok.0).3 ∙ world_of s before ok.1
world_of s (Wrote group rows ∷ before) ok = ap (λ w. with_rows w group rows) (world_of s before ok.1) ∙ sym ok.0

pub stores_atomic : (s : Schema) (h : List Happening) → AreHappenings s h → (name : Text) → IsAtomic (events_of s h) name
stores_atomic s h ok name = changes_atomic (events_of s h) (history_of s h ok) name
