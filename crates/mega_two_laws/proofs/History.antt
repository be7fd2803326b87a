-- What drivers stand on, and what every history keeps of every change.
use Rattle.std.proofs.Common.{◌≡◌, ◌⊎◌, inl, inr, cond, Bool, true, false, List, [], ◌∷◌, refl, sym, ap, ◌∙◌, subst, Option, Some, None}
use Rattle.mega_two_laws.specs.Parts.{Part}
use Rattle.mega_two_laws.specs.World.{Text, same, State, Undecided, Made, Dropped, Plan, state_of, World, world, Request, Planning, Preparing, Deciding, Finishing, LookingAtPlan, LookingAtLock, Reply, Done, Turned, PlanIs, LockIs, Again, Lost, Refused, Event, Gave}
use Rattle.mega_two_laws.specs.Driver.{Ending, Committed, Aborted, Used, Open, ending_of, Phase, Begins, Prepares, Decides, Looks, Finishes, Checks, Recovers, Ended, Driver, asked, preparing, finishing, by_state, by_lock, moved, parts_read, AreApart, is_free_reply, MayReply, IsReachable, begins, recovers, goes_on}
use Rattle.mega_two_laws.specs.Atomic.{In, EndsTruly}
use Rattle.mega_two_laws.proofs.Facts.{GoesOn, Decided, Facts, Ready}

-- ---- what a driver stands on

abbrev PlanOf : World → Text → List Part → Type 0
PlanOf w name parts = (p : Plan) × (w.plans name ≡ Some p) × (p.parts ≡ parts)

abbrev AllPrepared : List Event → Text → List Part → Type 0
AllPrepared events name parts = (part : Part) → In part parts → Gave events (Preparing name part) Done

abbrev DecidedOf : World → Text → List Part → Bool → Type 0
DecidedOf w name parts made = (p : Plan) × (w.plans name ≡ Some p) × (p.parts ≡ parts) × (p.state ≡ state_of made)

abbrev FitEnd : World → Text → Ending → Type 0
FitEnd w name Committed = Decided (w.plans name) true
FitEnd w name Aborted = Decided (w.plans name) false
FitEnd w name Used = Unit {0}
FitEnd w name Open = Unit {0}

abbrev Fit : World → List Event → Text → List Part → Phase → Type 0
Fit w events name parts Begins = AreApart parts
Fit w events name parts (Prepares left) = PlanOf w name parts × ((part : Part) → In part parts → In part left ⊎ Gave events (Preparing name part) Done)
Fit w events name parts (Decides made) = PlanOf w name parts × (made ≡ true → AllPrepared events name parts)
Fit w events name parts (Looks made) = PlanOf w name parts × (made ≡ true → AllPrepared events name parts)
Fit w events name parts (Finishes made left) = DecidedOf w name parts made × ((part : Part) → In part left → In part parts)
Fit w events name parts (Checks made left) = DecidedOf w name parts made × ((part : Part) → In part left → In part parts)
Fit w events name parts Recovers = Unit {0}
Fit w events name parts (Ended ending) = FitEnd w name ending

some_same : {A : Type 0} (x y : A) → Some x ≡ Some y → x ≡ y
some_same x y e = cc

module _ (events : List Event) (facts : (me : Text) → Facts (world events) events me) (name : Text) where
  abbrev w : World
  w = world events

  none_left : (part : Part) → In part [] ⊎ Gave events (Preparing name part) Done → Gave events (Preparing name part) Done
  none_left part (inl none) = absurd none
  none_left part (inr gave) = gave

  preparing_fit : (parts left : List Part) → PlanOf w name parts → ((part : Part) → In part parts → In part left ⊎ Gave events (Preparing name part) Done) → Fit w events name parts (preparing left)
  preparing_fit parts [] plan each = (plan, λ made part of. none_left part (each part of))
  preparing_fit parts (part ∷ left) plan each = (plan, each)

  end_fit : (made : Bool) → Decided (w.plans name) made → FitEnd w name (ending_of made)
  end_fit true d = d
  end_fit false d = d

  finishing_fit : (made : Bool) (parts left : List Part) → DecidedOf w name parts made → ((part : Part) → In part left → In part parts) → Fit w events name parts (finishing made left)
  finishing_fit made parts [] plan each = end_fit made (record { plan = plan.0; stands = plan.1; state = plan.3 })
  finishing_fit made parts (part ∷ left) plan each = (plan, each)

  decided_of : (parts : List Part) (made : Bool) → PlanOf w name parts → Decided (w.plans name) made → DecidedOf w name parts made
  decided_of parts made plan d = (d.plan, d.stands, ap (λ (p : Plan). p.parts) (some_same d.plan plan.0 (sym d.stands ∙ plan.1)) ∙ plan.2, d.state)

  -- a plan that was seen as decided is decided so
  not_undecided : (made : Bool) → state_of made ≡ Undecided → ⊥
  not_undecided true e = cc
  not_undecided false e = cc

  state_goes : (seen plan : Plan) (made : Bool) → seen.state ≡ state_of made → (seen.state ≡ Undecided) ⊎ (plan.state ≡ seen.state) → plan.state ≡ state_of made
  state_goes seen plan made is (inl still) = absurd (not_undecided made (sym is ∙ still))
  state_goes seen plan made is (inr same) = same ∙ is

  seen_state : (seen : Plan) (made : Bool) → seen.state ≡ state_of made → GoesOn (w.plans name) seen → Decided (w.plans name) made
  seen_state seen made is g = record { plan = g.plan; stands = g.stands; state = state_goes seen g.plan made is g.state }

  seen_fit : (made : Bool) (parts : List Part) (seen : Plan) (state : State) → seen.state ≡ state → Fit w events name parts (Decides made) → GoesOn (w.plans name) seen → Fit w events name parts (by_state made parts state)
  seen_fit made parts seen Undecided is fit g = fit
  seen_fit made parts seen Made is fit g = finishing_fit true parts parts (decided_of parts true fit.0 (seen_state seen true is g)) (λ part of. of)
  seen_fit made parts seen Dropped is fit g = finishing_fit false parts parts (decided_of parts false fit.0 (seen_state seen false is g)) (λ part of. of)

  held_fit : (made : Bool) (parts : List Part) (part : Part) (later : List Part) (b : Bool) → Fit w events name parts (Checks made (part ∷ later)) → Fit w events name parts (cond b (Finishes made (part ∷ later)) (finishing made later))
  held_fit made parts part later true fit = fit
  held_fit made parts part later false fit = finishing_fit made parts later fit.0 (λ one of. fit.1 one (inr of))

  lock_fit : (made : Bool) (parts : List Part) (part : Part) (later : List Part) (holder : Option Text) → Fit w events name parts (Checks made (part ∷ later)) → Fit w events name parts (by_lock name made part later holder)
  lock_fit made parts part later None fit = finishing_fit made parts later fit.0 (λ one of. fit.1 one (inr of))
  lock_fit made parts part later (Some holder) fit = held_fit made parts part later (same holder name) fit

  no_reply : (request : Request) (told : Reply) → is_free_reply told ≡ false → (is_free_reply told ≡ true) ⊎ Gave events request told → Gave events request told
  no_reply request told fixed (inl free) = absurd (let e : false ≡ true = sym fixed ∙ free in cc)
  no_reply request told fixed (inr gave) = gave

  left_fit : (part : Part) (later : List Part) → Gave events (Preparing name part) Done → (one : Part) → ((part ≡ one) ⊎ In one later) ⊎ Gave events (Preparing name one) Done → In one later ⊎ Gave events (Preparing name one) Done
  left_fit part later gave one (inl (inl this)) = inr (subst (λ (x : Part). Gave events (Preparing name x) Done) this gave)
  left_fit part later gave one (inl (inr of)) = inl of
  left_fit part later gave one (inr was) = inr was

  not_made : (parts : List Part) → false ≡ true → AllPrepared events name parts
  not_made parts e = absurd (cc)

  step : (parts : List Part) (phase : Phase) (told : Reply) → Fit w events name parts phase → MayReply events (asked name parts phase) told → Fit w events name (parts_read parts phase told) (moved name (parts_read parts phase told) phase told)
  step parts Begins Done fit t = preparing_fit parts parts ((facts name).planned parts (no_reply (Planning name parts) Done refl t)) (λ part of. inl of)
  step parts Begins Turned fit t = tt
  step parts Begins (PlanIs plan) fit t = fit
  step parts Begins (LockIs holder) fit t = fit
  step parts Begins Again fit t = fit
  step parts Begins Lost fit t = tt
  step parts Begins Refused fit t = tt
  step parts (Prepares []) told fit t = fit
  step parts (Prepares (part ∷ later)) Done fit t = preparing_fit parts later fit.0 (λ one of. left_fit part later (no_reply (Preparing name part) Done refl t) one (fit.1 one of))
  step parts (Prepares (part ∷ later)) Turned fit t = (fit.0, not_made parts)
  step parts (Prepares (part ∷ later)) (PlanIs plan) fit t = fit
  step parts (Prepares (part ∷ later)) (LockIs holder) fit t = fit
  step parts (Prepares (part ∷ later)) Again fit t = fit
  step parts (Prepares (part ∷ later)) Lost fit t = (fit.0, not_made parts)
  step parts (Prepares (part ∷ later)) Refused fit t = tt
  step parts (Decides made) Done fit t = finishing_fit made parts parts (decided_of parts made fit.0 ((facts name).decided made (no_reply (Deciding name made) Done refl t))) (λ part of. of)
  step parts (Decides made) Turned fit t = fit
  step parts (Decides made) (PlanIs plan) fit t = fit
  step parts (Decides made) (LockIs holder) fit t = fit
  step parts (Decides made) Again fit t = fit
  step parts (Decides made) Lost fit t = fit
  step parts (Decides made) Refused fit t = tt
  step parts (Looks made) Done fit t = fit
  step parts (Looks made) Turned fit t = fit
  step parts (Looks made) (PlanIs None) fit t = tt
  step parts (Looks made) (PlanIs (Some seen)) fit t = seen_fit made parts seen seen.state refl fit ((facts name).shown seen (no_reply (LookingAtPlan name) (PlanIs (Some seen)) refl t))
  step parts (Looks made) (LockIs holder) fit t = fit
  step parts (Looks made) Again fit t = fit
  step parts (Looks made) Lost fit t = fit
  step parts (Looks made) Refused fit t = tt
  step parts (Finishes made []) told fit t = fit
  step parts (Finishes made (part ∷ later)) Done fit t = finishing_fit made parts later fit.0 (λ one of. fit.1 one (inr of))
  step parts (Finishes made (part ∷ later)) Turned fit t = fit
  step parts (Finishes made (part ∷ later)) (PlanIs plan) fit t = fit
  step parts (Finishes made (part ∷ later)) (LockIs holder) fit t = fit
  step parts (Finishes made (part ∷ later)) Again fit t = fit
  step parts (Finishes made (part ∷ later)) Lost fit t = fit
  step parts (Finishes made (part ∷ later)) Refused fit t = tt
  step parts (Checks made []) told fit t = fit
  step parts (Checks made (part ∷ later)) Done fit t = fit
  step parts (Checks made (part ∷ later)) Turned fit t = fit
  step parts (Checks made (part ∷ later)) (PlanIs plan) fit t = fit
  step parts (Checks made (part ∷ later)) (LockIs holder) fit t = lock_fit made parts part later holder fit
  step parts (Checks made (part ∷ later)) Again fit t = fit
  step parts (Checks made (part ∷ later)) Lost fit t = fit
  step parts (Checks made (part ∷ later)) Refused fit t = tt
  step parts Recovers Done fit t = tt
  step parts Recovers Turned fit t = tt
  step parts Recovers (PlanIs None) fit t = tt
  step parts Recovers (PlanIs (Some seen)) fit t =
      let g = (facts name).shown seen (no_reply (LookingAtPlan name) (PlanIs (Some seen)) refl t) in
      seen_fit false seen.parts seen seen.state refl ((g.plan, g.stands, g.parts), not_made seen.parts) g
  step parts Recovers (LockIs holder) fit t = tt
  step parts Recovers Again fit t = tt
  step parts Recovers Lost fit t = tt
  step parts Recovers Refused fit t = tt
  step parts (Ended ending) told fit t = fit

  -- what a request that is asked stands on
  decides_ready : (parts : List Part) (made : Bool) → Fit w events name parts (Decides made) → Ready w events (Deciding name made)
  decides_ready parts true fit = λ p stands part of. fit.1 refl part (subst (In part) (ap (λ (q : Plan). q.parts) (some_same p (fit.0).0 (sym stands ∙ (fit.0).1)) ∙ (fit.0).2) of)
  decides_ready parts false fit = tt

  pub ready_of : (parts : List Part) (phase : Phase) → Fit w events name parts phase → (request : Request) → asked name parts phase ≡ Some request → Ready w events request
  ready_of parts Begins fit request e = subst (Ready w events) (some_same (Planning name parts) request e) fit
  ready_of parts (Prepares []) fit request e = absurd (cc)
  ready_of parts (Prepares (part ∷ later)) fit request e = subst (Ready w events) (some_same (Preparing name part) request e) tt
  ready_of parts (Decides made) fit request e = subst (Ready w events) (some_same (Deciding name made) request e) (decides_ready parts made fit)
  ready_of parts (Looks made) fit request e = subst (Ready w events) (some_same (LookingAtPlan name) request e) tt
  ready_of parts (Finishes made []) fit request e = absurd (cc)
  ready_of parts (Finishes made (part ∷ later)) fit request e =
      subst (Ready w events) (some_same (Finishing name made part) request e)
      ((fit.0).0, (fit.0).1, (fit.0).3, subst (In part) (sym (fit.0).2) (fit.1 part (inl refl)))
  ready_of parts (Checks made []) fit request e = absurd (cc)
  ready_of parts (Checks made (part ∷ later)) fit request e = subst (Ready w events) (some_same (LookingAtLock name part.group) request e) tt
  ready_of parts Recovers fit request e = subst (Ready w events) (some_same (LookingAtPlan name) request e) tt
  ready_of parts (Ended ending) fit request e = absurd (cc)

pub fit_of : (events : List Event) → ((me : Text) → Facts (world events) events me) → (d : Driver) → IsReachable events d → Fit (world events) events d.name d.parts d.phase
fit_of events facts d (begins name parts apart) = apart
fit_of events facts d (recovers name) = tt
fit_of events facts d (goes_on before told r t) = step events facts before.name before.parts before.phase told (fit_of events facts before r) t

-- ---- how a driver ends

end_truly : (events : List Event) (name : Text) (ending : Ending) → FitEnd (world events) name ending → EndsTruly events name ending
end_truly events name Committed d = record { plan = d.plan; stands = d.stands; state_is = d.state }
end_truly events name Aborted d = record { plan = d.plan; stands = d.stands; state_is = d.state }
end_truly events name Used d = tt
end_truly events name Open d = tt

pub ends_truly : (events : List Event) → ((me : Text) → Facts (world events) events me) → (d : Driver) (ending : Ending) → IsReachable events d → d.phase ≡ Ended ending → EndsTruly events d.name ending
ends_truly events facts d ending r ended =
    end_truly events d.name ending (subst (Fit (world events) events d.name d.parts) ended (fit_of events facts d r))
