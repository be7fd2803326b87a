-- Every request that is run where it was asked keeps the facts of every change.
use Rattle.std.proofs.Common.{◌≡◌, inl, inr, ℕ, ◌+◌, ◌&&◌, cond, Bool, true, false, List, ◌∷◌, is_none, refl, sym, ap, ◌∙◌, subst, arith, Option, Some, None}
use Rattle.mega_two_laws.specs.Parts.{Part, Rows}
use Rattle.mega_two_laws.specs.World.{Text, same, Plan, is_undecided, new_plan, decided_as, World, with_plan, with_lock, with_done, at, planned, prepared, is_free, decided, decided_if, rows_behind, finished, finished_with, run, world, Request, Planning, Preparing, Deciding, Finishing, LookingAtPlan, LookingAtLock, Reply, Done, Turned, PlanIs, LockIs, Event, Runs, Gave, reply}
use Rattle.mega_two_laws.specs.Atomic.{In, is_done, count, decides, writes}
use Rattle.mega_two_laws.specs.Driver.{AreApart}
use Rattle.mega_two_laws.proofs.Names.{both_true, same_is, not_same, at_same, at_other}
use Rattle.mega_two_laws.proofs.Facts.{Facts, name_of, Ready}
use Rattle.mega_two_laws.proofs.Other.{alike_facts}
use Rattle.mega_two_laws.proofs.Own.{no_more, planning_facts, preparing_facts, deciding_facts, finishing_facts}

some_same : {A : Type 0} (x y : A) → Some x ≡ Some y → x ≡ y
some_same x y e = cc

none_is : {A : Type 0} (o : Option A) → is_none o ≡ true → o ≡ None
none_is None h = refl
none_is (Some x) h = absurd (cc)

not_both : (b : Bool) → (b && false) ≡ false
not_both true = refl
not_both false = refl

-- a run that was not done is counted nowhere
not_counted : (test : Request → Bool) (before : List Event) (request : Request) → is_done (reply before request) ≡ false → count test (Runs request ∷ before) ≡ count test before
not_counted test before request is = ap (λ b. (cond (test request && b) 1 0) + count test before) is ∙ ap (λ b. (cond b 1 0) + count test before) (not_both (test request)) ∙ zero_more (count test before)
  where
    zero_more : (n : ℕ) → 0 + n ≡ n
    zero_more n = omega arith

decides_other : (me : Text) (request : Request) → same (name_of request) me ≡ false → decides me request ≡ false
decides_other me (Planning name parts) h = refl
decides_other me (Preparing name part) h = refl
decides_other me (Deciding name made) h = h
decides_other me (Finishing name made part) h = refl
decides_other me (LookingAtPlan name) h = refl
decides_other me (LookingAtLock name group) h = refl

writes_other : (me group : Text) (request : Request) → same (name_of request) me ≡ false → writes me group request ≡ false
writes_other me group (Planning name parts) h = refl
writes_other me group (Preparing name part) h = refl
writes_other me group (Deciding name made) h = refl
writes_other me group (Finishing name made part) h = ap (λ b. made && (b && same part.group group)) h ∙ not_both made
writes_other me group (LookingAtPlan name) h = refl
writes_other me group (LookingAtLock name at) h = refl

module _ (before : List Event) (me : Text) (f : Facts (world before) before me) where
  abbrev w : World
  w = world before

  -- a request that was turned, or looked at a lock, changes nothing
  idle_facts : (request : Request) (told : Reply) → reply before request ≡ told → is_done told ≡ false → ((plan : Option Plan) → told ≡ PlanIs plan → ⊥) → Facts w (Runs request ∷ before) me
  idle_facts request told is idle no_plan = alike_facts w w before (Runs request ∷ before) me f (record {
    plans = refl;
    dones = λ group. refl;
    locks_on = λ group held. held;
    locks_back = λ group held. held;
    gave_on = λ other gave. inr gave;
    gave_back = λ other of gave. (elim gave [
      | inl this ↦ absurd (let e : false ≡ true = sym idle ∙ ap is_done (sym is ∙ this.1) in cc)
      | inr was ↦ was
    ]);
    shown_back = λ p gave. (elim gave [
      | inl this ↦ absurd (no_plan (Some p) (sym is ∙ this.1))
      | inr was ↦ f.shown p was
    ]);
    decides_same = not_counted (decides me) before request (ap is_done is ∙ idle);
    writes_same = λ group. not_counted (writes me group) before request (ap is_done is ∙ idle);
  })

  turned_facts : (request : Request) → reply before request ≡ Turned → Facts w (Runs request ∷ before) me
  turned_facts request is = idle_facts request Turned is refl (λ plan e. cc)

  -- the plan was looked at
  looked_facts : (name : Text) → Facts w (Runs (LookingAtPlan name) ∷ before) me
  looked_facts name = alike_facts w w before (Runs (LookingAtPlan name) ∷ before) me f (record {
    plans = refl;
    dones = λ group. refl;
    locks_on = λ group held. held;
    locks_back = λ group held. held;
    gave_on = λ other gave. inr gave;
    gave_back = λ other of gave. (elim gave [
      | inl this ↦ absurd (let e = this.1 in cc)
      | inr was ↦ was
    ]);
    shown_back = λ p gave. (elim gave [
      | inl this ↦ (let own : name ≡ me = names this.0 in
          record { plan = p; stands = subst (λ x. w.plans x ≡ Some p) own (plans_are (w.plans name) (Some p) this.1); parts = refl; state = inr refl })
      | inr was ↦ f.shown p was
    ]);
    decides_same = not_counted (decides me) before (LookingAtPlan name) refl;
    writes_same = λ group. not_counted (writes me group) before (LookingAtPlan name) refl;
  })
    where
      names : LookingAtPlan name ≡ LookingAtPlan me → name ≡ me
      names e = cc

      plans_are : (a b : Option Plan) → PlanIs a ≡ PlanIs b → a ≡ b
      plans_are a b e = cc

  -- a request of another change was done
  other_facts : (request : Request) (now : World) → same (name_of request) me ≡ false → now.plans me ≡ w.plans me → ((group : Text) → now.dones group me ≡ w.dones group me)
      → ((group : Text) → w.locks group ≡ Some me → now.locks group ≡ Some me) → ((group : Text) → now.locks group ≡ Some me → w.locks group ≡ Some me) → Facts now (Runs request ∷ before) me
  other_facts request now apart plans dones on back = alike_facts w now before (Runs request ∷ before) me f (record {
    plans = plans;
    dones = dones;
    locks_on = on;
    locks_back = back;
    gave_on = λ other gave. inr gave;
    gave_back = λ other of gave. (elim gave [
      | inl this ↦ absurd (not_same (name_of request) me apart (ap name_of this.0 ∙ of))
      | inr was ↦ was
    ]);
    shown_back = λ p gave. (elim gave [
      | inl this ↦ absurd (not_same (name_of request) me apart (ap name_of this.0))
      | inr was ↦ f.shown p was
    ]);
    decides_same = no_more (decides me) before request (decides_other me request apart);
    writes_same = λ group. no_more (writes me group) before request (writes_other me group request apart);
  })

module _ (before : List Event) (facts : (me : Text) → Facts (world before) before me) (me : Text) where
  abbrev old : World
  old = world before

  plan_kept : (name : Text) (parts : List Part) → AreApart parts → (o : Option Plan) → old.plans name ≡ o → (b : Bool) → same name me ≡ b → Facts (planned old name parts o).0 (Runs (Planning name parts) ∷ before) me
  plan_kept name parts apart (Some plan) is b own = turned_facts before me (facts me) (Planning name parts) (ap (λ o. (planned old name parts o).1) is)
  plan_kept name parts apart None is true own =
      subst (Facts (planned old name parts None).0 (Runs (Planning name parts) ∷ before)) (same_is name me own)
      (planning_facts old before name (facts name) parts is apart)
  plan_kept name parts apart None is false own =
      other_facts before me (facts me) (Planning name parts) (planned old name parts None).0 own
      (at_other name me (Some (new_plan parts)) old.plans own) (λ group. refl) (λ group held. held) (λ group held. held)

  prepare_kept : (name : Text) (part : Part) → (b : Bool) → is_free old name part ≡ b → (c : Bool) → same name me ≡ c → Facts (prepared b old name part).0 (Runs (Preparing name part) ∷ before) me
  prepare_kept name part false is c own = turned_facts before me (facts me) (Preparing name part) (ap (λ b. (prepared b old name part).1) is)
  prepare_kept name part true is c own = by c own
    where
      free : (old.locks part.group ≡ None) × (old.dones part.group name ≡ None)
      free =
          let first = both_true (is_none (old.locks part.group)) (is_none (old.dones part.group name) && part.is_true (old.rows part.group)) is in
          let second = both_true (is_none (old.dones part.group name)) (part.is_true (old.rows part.group)) first.1 in
          (none_is (old.locks part.group) first.0, none_is (old.dones part.group name) second.0)

      on : same name me ≡ false → (group : Text) (b : Bool) → same part.group group ≡ b → old.locks group ≡ Some me → at part.group (Some name) old.locks group ≡ Some me
      on apart group true here held = absurd (let e : None ≡ Some me = sym free.0 ∙ ap old.locks (same_is part.group group here) ∙ held in cc)
      on apart group false here held = at_other part.group group (Some name) old.locks here ∙ held

      back : same name me ≡ false → (group : Text) (b : Bool) → same part.group group ≡ b → at part.group (Some name) old.locks group ≡ Some me → old.locks group ≡ Some me
      back apart group true here held = absurd (not_same name me apart (some_same name me (sym (at_same part.group group (Some name) old.locks here) ∙ held)))
      back apart group false here held = sym (at_other part.group group (Some name) old.locks here) ∙ held

      by : (c : Bool) → same name me ≡ c → Facts (with_lock old part.group name) (Runs (Preparing name part) ∷ before) me
      by true own = subst (Facts (with_lock old part.group name) (Runs (Preparing name part) ∷ before)) (same_is name me own)
          (preparing_facts old before name (facts name) part free.0 free.1)
      by false own = other_facts before me (facts me) (Preparing name part) (with_lock old part.group name) own refl (λ group. refl)
          (λ group held. on own group (same part.group group) refl held) (λ group held. back own group (same part.group group) refl held)

  prepared_parts : (name : Text) (made : Bool) (plan : Plan) → old.plans name ≡ Some plan → Ready old before (Deciding name made) → made ≡ true → (part : Part) → In part plan.parts → Gave before (Preparing name part) Done
  prepared_parts name true plan is ready e part of = ready plan is part of
  prepared_parts name false plan is ready e part of = absurd (cc)

  decide_told : (name : Text) (made : Bool) (plan : Plan) (b : Bool) → old.plans name ≡ Some plan → is_undecided plan.state ≡ b → reply before (Deciding name made) ≡ (decided_if b old name made plan).1
  decide_told name made plan b is still = ap (λ o. (decided old name made o).1) is ∙ ap (λ b. (decided_if b old name made plan).1) still

  decide_done : (name : Text) (made : Bool) (plan : Plan) → old.plans name ≡ Some plan → is_undecided plan.state ≡ true → Ready old before (Deciding name made) → (c : Bool) → same name me ≡ c
      → Facts (with_plan old name (decided_as made plan)) (Runs (Deciding name made) ∷ before) me
  decide_done name made plan is still ready true own = subst (Facts (with_plan old name (decided_as made plan)) (Runs (Deciding name made) ∷ before)) (same_is name me own)
      (deciding_facts old before name (facts name) made plan is still (decide_told name made plan true is still) (prepared_parts name made plan is ready))
  decide_done name made plan is still ready false own = other_facts before me (facts me) (Deciding name made) (with_plan old name (decided_as made plan)) own
      (at_other name me (Some (decided_as made plan)) old.plans own) (λ group. refl) (λ group held. held) (λ group held. held)

  decide_if : (name : Text) (made : Bool) (plan : Plan) → old.plans name ≡ Some plan → Ready old before (Deciding name made) → (b : Bool) → is_undecided plan.state ≡ b
      → Facts (decided_if b old name made plan).0 (Runs (Deciding name made) ∷ before) me
  decide_if name made plan is ready false still = turned_facts before me (facts me) (Deciding name made) (decide_told name made plan false is still)
  decide_if name made plan is ready true still = decide_done name made plan is still ready (same name me) refl

  decide_kept : (name : Text) (made : Bool) → Ready old before (Deciding name made) → (o : Option Plan) → old.plans name ≡ o → Facts (decided old name made o).0 (Runs (Deciding name made) ∷ before) me
  decide_kept name made ready None is = turned_facts before me (facts me) (Deciding name made) (ap (λ o. (decided old name made o).1) is)
  decide_kept name made ready (Some plan) is = decide_if name made plan is ready (is_undecided plan.state) refl

  module _ (name : Text) (made : Bool) (part : Part) (ready : Ready old before (Finishing name made part)) (holder : Text) (is : old.locks part.group ≡ Some holder) where
    abbrev behind : Option Rows
    behind = rows_behind made part (old.rows part.group)

    abbrev done_if : Bool → World × Reply
    done_if b = cond b (finished_with old name made part behind) (old, Turned)

    told : (b : Bool) → same holder name ≡ b → reply before (Finishing name made part) ≡ (done_if b).1
    told b held = ap (λ o. (finished old name made part o).1) is ∙ ap (λ b. (done_if b).1) held

    locked : same holder name ≡ true → old.locks part.group ≡ Some name
    locked held = is ∙ ap Some (same_is holder name held)

    dones_on : same name me ≡ false → (group : Text) (b : Bool) → same part.group group ≡ b → at part.group (at name (Some made) (old.dones part.group)) old.dones group me ≡ old.dones group me
    dones_on apart group true here =
        ap (λ (d : Text → Option Bool). d me) (at_same part.group group (at name (Some made) (old.dones part.group)) old.dones here) ∙ at_other name me (Some made) (old.dones part.group) apart
        ∙ ap (λ g. old.dones g me) (same_is part.group group here)
    dones_on apart group false here = ap (λ (d : Text → Option Bool). d me) (at_other part.group group (at name (Some made) (old.dones part.group)) old.dones here)

    on : same holder name ≡ true → same name me ≡ false → (group : Text) (b : Bool) → same part.group group ≡ b → old.locks group ≡ Some me → at part.group None old.locks group ≡ Some me
    on held apart group true here mine = absurd (not_same name me apart (some_same name me (sym (locked held) ∙ ap old.locks (same_is part.group group here) ∙ mine)))
    on held apart group false here mine = at_other part.group group None old.locks here ∙ mine

    back : (group : Text) (b : Bool) → same part.group group ≡ b → at part.group None old.locks group ≡ Some me → old.locks group ≡ Some me
    back group true here mine = absurd (let e : None ≡ Some me = sym (at_same part.group group None old.locks here) ∙ mine in cc)
    back group false here mine = sym (at_other part.group group None old.locks here) ∙ mine

    rows_kept : same holder name ≡ true → (o : Option Rows) → behind ≡ o → (c : Bool) → same name me ≡ c → Facts (finished_with old name made part o).0 (Runs (Finishing name made part) ∷ before) me
    rows_kept held None left c own = turned_facts before me (facts me) (Finishing name made part) (told true held ∙ ap (λ o. (finished_with old name made part o).1) left)
    rows_kept held (Some rows) left true own = subst (Facts (with_done old part.group name made rows) (Runs (Finishing name made part) ∷ before)) (same_is name me own)
        (finishing_facts old before name (facts name) made part rows (locked held) (told true held ∙ ap (λ o. (finished_with old name made part o).1) left) ready.0 ready.1 ready.2 ready.3)
    rows_kept held (Some rows) left false own = other_facts before me (facts me) (Finishing name made part) (with_done old part.group name made rows) own refl
        (λ group. dones_on own group (same part.group group) refl) (λ group mine. on held own group (same part.group group) refl mine) (λ group mine. back group (same part.group group) refl mine)

    held_kept : (b : Bool) → same holder name ≡ b → Facts (done_if b).0 (Runs (Finishing name made part) ∷ before) me
    held_kept false held = turned_facts before me (facts me) (Finishing name made part) (told false held)
    held_kept true held = rows_kept held behind refl (same name me) refl

  finish_kept : (name : Text) (made : Bool) (part : Part) → Ready old before (Finishing name made part) → (o : Option Text) → old.locks part.group ≡ o → Facts (finished old name made part o).0 (Runs (Finishing name made part) ∷ before) me
  finish_kept name made part ready None is = turned_facts before me (facts me) (Finishing name made part) (ap (λ o. (finished old name made part o).1) is)
  finish_kept name made part ready (Some holder) is = held_kept name made part ready holder is (same holder name) refl

  pub run_kept : (request : Request) → Ready old before request → Facts (run old request).0 (Runs request ∷ before) me
  run_kept (Planning name parts) ready = plan_kept name parts ready (old.plans name) refl (same name me) refl
  run_kept (Preparing name part) ready = prepare_kept name part (is_free old name part) refl (same name me) refl
  run_kept (Deciding name made) ready = decide_kept name made ready (old.plans name) refl
  run_kept (Finishing name made part) ready = finish_kept name made part ready (old.locks part.group) refl
  run_kept (LookingAtPlan name) ready = looked_facts before me (facts me) name
  run_kept (LookingAtLock name group) ready = idle_facts before me (facts me) (LookingAtLock name group) (LockIs (old.locks group)) refl refl (λ plan e. cc)
