-- What each request that is done does to the facts of its own change.
use Rattle.std.proofs.Common.{◌≡◌, ◌⊎◌, inl, inr, ℕ, ◌+◌, ◌&&◌, cond, Bool, true, false, List, ◌∷◌, refl, sym, ap, ◌∙◌, subst, arith, Option, Some, None}
use Rattle.mega_two_laws.specs.Parts.{Part, Rows}
use Rattle.mega_two_laws.specs.World.{Text, same, State, Undecided, Made, Dropped, Plan, state_of, is_undecided, new_plan, decided_as, World, with_plan, with_lock, with_done, at, Request, Planning, Preparing, Deciding, Finishing, LookingAtPlan, Reply, Done, PlanIs, Event, Runs, Gave, reply}
use Rattle.mega_two_laws.specs.Driver.{AreApart}
use Rattle.mega_two_laws.specs.Atomic.{In, count, decides, is_done, writes}
use Rattle.mega_two_laws.proofs.Names.{same_self, same_is, at_self, at_same, at_other}
use Rattle.mega_two_laws.proofs.Facts.{GoesOn, Finished, Decided, PartOf, Facts}

some_is : {A : Type 0} (x y : A) → Some x ≡ Some y → x ≡ y
some_is x y e = cc

none_some : {A : Type 0} (o : Option A) (x : A) → o ≡ None → o ≡ Some x → ⊥
none_some o x none some = let e : None ≡ Some x = sym none ∙ some in cc

undecided_only : (made : Bool) → state_of made ≡ Undecided → ⊥
undecided_only true e = cc
undecided_only false e = cc

is_undecided_is : (state : State) → is_undecided state ≡ true → state ≡ Undecided
is_undecided_is Undecided h = refl
is_undecided_is Made h = absurd (cc)
is_undecided_is Dropped h = absurd (cc)

zero_more : (n : ℕ) → 0 + n ≡ n
zero_more n = omega arith

-- one more run that was done, of a request that passes or does not
more : (test : Request → Bool) (before : List Event) (request : Request) → test request ≡ true → reply before request ≡ Done → count test (Runs request ∷ before) ≡ 1 + count test before
more test before request is done = λ i. (cond (is i && is_done (done i)) 1 0) + count test before

pub no_more : (test : Request → Bool) (before : List Event) (request : Request) → test request ≡ false → count test (Runs request ∷ before) ≡ count test before
no_more test before request is = ap (λ b. (cond (b && is_done (reply before request)) 1 0) + count test before) is ∙ zero_more (count test before)

-- a reply that the newest run did not give
past : (before : List Event) (newest request : Request) (told : Reply) → ((newest ≡ request) × (reply before newest ≡ told)) ⊎ Gave before request told → (newest ≡ request → ⊥) → Gave before request told
past before newest request told (inl this) other = absurd (other this.0)
past before newest request told (inr was) other = was

-- ---- a plan is new
module _ (w : World) (before : List Event) (me : Text) (f : Facts w before me) (parts : List Part) (none : w.plans me ≡ None) (ready : AreApart parts) where
  here : at me (Some (new_plan parts)) w.plans me ≡ Some (new_plan parts)
  here = at_self me (Some (new_plan parts)) w.plans

  now : (p : Plan) → at me (Some (new_plan parts)) w.plans me ≡ Some p → new_plan parts ≡ p
  now p stands = some_is (new_plan parts) p (sym here ∙ stands)

  planned_same : (other : List Part) → Planning me parts ≡ Planning me other → parts ≡ other
  planned_same other e = cc

  planned_now : (other : List Part) → ((Planning me parts ≡ Planning me other) × (reply before (Planning me parts) ≡ Done)) ⊎ Gave before (Planning me other) Done
      → (p : Plan) × (at me (Some (new_plan parts)) w.plans me ≡ Some p) × (p.parts ≡ other)
  planned_now other (inl this) = (new_plan parts, here, planned_same other this.0)
  planned_now other (inr was) = let r = f.planned other was in absurd (none_some (w.plans me) r.0 none r.1)

  undecided_now : (p : Plan) → at me (Some (new_plan parts)) w.plans me ≡ Some p → p.state ≡ Made → ⊥
  undecided_now p stands made = let e : Undecided ≡ Made = ap (λ (q : Plan). q.state) (now p stands) ∙ made in cc

  once_plan : (count (decides me) before ≡ 0) ⊎ ((count (decides me) before ≡ 1) × ((made : Bool) × Decided (w.plans me) made))
      → (count (decides me) (Runs (Planning me parts) ∷ before) ≡ 0) ⊎ ((count (decides me) (Runs (Planning me parts) ∷ before) ≡ 1) × ((made : Bool) × Decided (at me (Some (new_plan parts)) w.plans me) made))
  once_plan (inl nought) = inl (no_more (decides me) before (Planning me parts) refl ∙ nought)
  once_plan (inr one) = absurd (none_some (w.plans me) (one.1.1).plan none (one.1.1).stands)

  written_plan : (group : Text) → (count (writes me group) before ≡ 0) ⊎ ((count (writes me group) before ≡ 1) × (w.dones group me ≡ Some true))
      → (count (writes me group) (Runs (Planning me parts) ∷ before) ≡ 0) ⊎ ((count (writes me group) (Runs (Planning me parts) ∷ before) ≡ 1) × (w.dones group me ≡ Some true))
  written_plan group (inl nought) = inl (no_more (writes me group) before (Planning me parts) refl ∙ nought)
  written_plan group (inr one) = inr (no_more (writes me group) before (Planning me parts) refl ∙ one.0, one.1)

  pub planning_facts : Facts (with_plan w me (new_plan parts)) (Runs (Planning me parts) ∷ before) me
  planning_facts = record {
    apart = λ p stands. subst AreApart (ap (λ (q : Plan). q.parts) (now p stands)) ready;
    planned = planned_now;
    prepared = λ p stands made part of. absurd (undecided_now p stands made);
    locked = λ part gave. f.locked part (past before (Planning me parts) (Preparing me part) Done gave (λ e. cc));
    free = f.free;
    finished = λ group made is. (let r = f.finished group made is in absurd (none_some (w.plans me) r.plan none r.stands));
    done = λ made part gave. (let r = f.done made part (past before (Planning me parts) (Finishing me made part) Done gave (λ e. cc)) in absurd (none_some (w.plans me) (r.1).plan none (r.1).stands));
    decided = λ made gave. (let r = f.decided made (past before (Planning me parts) (Deciding me made) Done gave (λ e. cc)) in absurd (none_some (w.plans me) r.plan none r.stands));
    shown = λ p gave. (let r = f.shown p (past before (Planning me parts) (LookingAtPlan me) (PlanIs (Some p)) gave (λ e. cc)) in absurd (none_some (w.plans me) r.plan none r.stands));
    once = once_plan f.once;
    written = λ group. written_plan group (f.written group);
  }

-- ---- a part is prepared
module _ (w : World) (before : List Event) (me : Text) (f : Facts w before me) (part : Part) (unlocked : w.locks part.group ≡ None) (unfinished : w.dones part.group me ≡ None) where
  abbrev locks_then : Text → Option Text
  locks_then = at part.group (Some me) w.locks

  held_on : (group : Text) → w.locks group ≡ Some me → (b : Bool) → same part.group group ≡ b → locks_then group ≡ Some me
  held_on group held true is = at_same part.group group (Some me) w.locks is
  held_on group held false is = at_other part.group group (Some me) w.locks is ∙ held

  same_part : (one : Part) → Preparing me part ≡ Preparing me one → part ≡ one
  same_part one e = cc

  old_lock : (one : Part) → (w.locks one.group ≡ Some me) ⊎ ((made : Bool) × (w.dones one.group me ≡ Some made)) → (locks_then one.group ≡ Some me) ⊎ ((made : Bool) × (w.dones one.group me ≡ Some made))
  old_lock one (inl held) = inl (held_on one.group held (same part.group one.group) refl)
  old_lock one (inr found) = inr found

  locked_then : (one : Part) → ((Preparing me part ≡ Preparing me one) × (reply before (Preparing me part) ≡ Done)) ⊎ Gave before (Preparing me one) Done
      → (locks_then one.group ≡ Some me) ⊎ ((made : Bool) × (w.dones one.group me ≡ Some made))
  locked_then one (inl this) = inl (subst (λ (x : Part). locks_then x.group ≡ Some me) (same_part one this.0) (at_self part.group (Some me) w.locks))
  locked_then one (inr was) = old_lock one (f.locked one was)

  free_then : (group : Text) (made : Bool) → w.dones group me ≡ Some made → (b : Bool) → same part.group group ≡ b → locks_then group ≡ Some me → ⊥
  free_then group made is true here held = none_some (w.dones group me) made (ap (λ g. w.dones g me) (sym (same_is part.group group here)) ∙ unfinished) is
  free_then group made is false here held = f.free group made is (sym (at_other part.group group (Some me) w.locks here) ∙ held)

  finished_then : (group : Text) (made : Bool) → Finished (w.plans me) before me group made → Finished (w.plans me) (Runs (Preparing me part) ∷ before) me group made
  finished_then group made r = record { plan = r.plan; stands = r.stands; state = r.state; part = r.part; part_of = r.part_of; place = r.place; gave = inr r.gave }

  once_then : (count (decides me) before ≡ 0) ⊎ ((count (decides me) before ≡ 1) × ((made : Bool) × Decided (w.plans me) made))
      → (count (decides me) (Runs (Preparing me part) ∷ before) ≡ 0) ⊎ ((count (decides me) (Runs (Preparing me part) ∷ before) ≡ 1) × ((made : Bool) × Decided (w.plans me) made))
  once_then (inl nought) = inl (no_more (decides me) before (Preparing me part) refl ∙ nought)
  once_then (inr one) = inr (no_more (decides me) before (Preparing me part) refl ∙ one.0, one.1)

  written_then : (group : Text) → (count (writes me group) before ≡ 0) ⊎ ((count (writes me group) before ≡ 1) × (w.dones group me ≡ Some true))
      → (count (writes me group) (Runs (Preparing me part) ∷ before) ≡ 0) ⊎ ((count (writes me group) (Runs (Preparing me part) ∷ before) ≡ 1) × (w.dones group me ≡ Some true))
  written_then group (inl nought) = inl (no_more (writes me group) before (Preparing me part) refl ∙ nought)
  written_then group (inr one) = inr (no_more (writes me group) before (Preparing me part) refl ∙ one.0, one.1)

  pub preparing_facts : Facts (with_lock w part.group me) (Runs (Preparing me part) ∷ before) me
  preparing_facts = record {
    apart = f.apart;
    planned = λ parts gave. f.planned parts (past before (Preparing me part) (Planning me parts) Done gave (λ e. cc));
    prepared = λ p stands made one of. inr (f.prepared p stands made one of);
    locked = locked_then;
    free = λ group made is held. free_then group made is (same part.group group) refl held;
    finished = λ group made is. finished_then group made (f.finished group made is);
    done = λ made one gave. f.done made one (past before (Preparing me part) (Finishing me made one) Done gave (λ e. cc));
    decided = λ made gave. f.decided made (past before (Preparing me part) (Deciding me made) Done gave (λ e. cc));
    shown = λ p gave. f.shown p (past before (Preparing me part) (LookingAtPlan me) (PlanIs (Some p)) gave (λ e. cc));
    once = once_then f.once;
    written = λ group. written_then group (f.written group);
  }

-- ---- a plan is decided
module _ (w : World) (before : List Event) (me : Text) (f : Facts w before me) (made : Bool) (p : Plan) (stands : w.plans me ≡ Some p) (still : is_undecided p.state ≡ true)
    (done : reply before (Deciding me made) ≡ Done) (ready : made ≡ true → (part : Part) → In part p.parts → Gave before (Preparing me part) Done) where
  abbrev new : Plan
  new = decided_as made p

  abbrev plan_then : Option Plan
  plan_then = at me (Some new) w.plans me

  was_undecided : p.state ≡ Undecided
  was_undecided = is_undecided_is p.state still

  same_plan : (q : Plan) → w.plans me ≡ Some q → p ≡ q
  same_plan q is = some_is p q (sym stands ∙ is)

  new_stands : plan_then ≡ Some new
  new_stands = at_self me (Some new) w.plans

  new_is : (q : Plan) → plan_then ≡ Some q → new ≡ q
  new_is q is = some_is new q (sym new_stands ∙ is)

  -- no part is finished, and it was not decided before
  none_decided : (m : Bool) → Decided (w.plans me) m → ⊥
  none_decided m r = undecided_only m (sym r.state ∙ sym (ap (λ (q : Plan). q.state) (same_plan r.plan r.stands)) ∙ was_undecided)

  none_done : (group : Text) (m : Bool) → w.dones group me ≡ Some m → ⊥
  none_done group m is = let r = f.finished group m is in none_decided m (record { plan = r.plan; stands = r.stands; state = r.state })

  is_made : (m : Bool) → state_of m ≡ Made → m ≡ true
  is_made true e = refl
  is_made false e = absurd (cc)

  same_made : (m : Bool) → Deciding me made ≡ Deciding me m → made ≡ m
  same_made m e = cc

  planned_new : (parts : List Part) → (q : Plan) × (w.plans me ≡ Some q) × (q.parts ≡ parts) → (q : Plan) × (plan_then ≡ Some q) × (q.parts ≡ parts)
  planned_new parts r = (new, new_stands, ap (λ (q : Plan). q.parts) (same_plan r.0 r.1) ∙ r.2)

  prepared_new : (q : Plan) → plan_then ≡ Some q → q.state ≡ Made → (part : Part) → In part q.parts → Gave before (Preparing me part) Done
  prepared_new q is state part of =
      let same_new = new_is q is in
      ready (is_made made (ap (λ (x : Plan). x.state) same_new ∙ state)) part (subst (λ (x : Plan). In part x.parts) (sym same_new) of)

  decided_new : (m : Bool) → ((Deciding me made ≡ Deciding me m) × (reply before (Deciding me made) ≡ Done)) ⊎ Gave before (Deciding me m) Done → Decided plan_then m
  decided_new m (inl this) = record { plan = new; stands = new_stands; state = ap state_of (same_made m this.0) }
  decided_new m (inr was) = absurd (none_decided m (f.decided m was))

  state_new : (seen : Plan) (r : GoesOn (w.plans me) seen) → (seen.state ≡ Undecided) ⊎ (r.plan.state ≡ seen.state) → (seen.state ≡ Undecided) ⊎ (new.state ≡ seen.state)
  state_new seen r (inl was) = inl was
  state_new seen r (inr was) = inl (sym was ∙ sym (ap (λ (q : Plan). q.state) (same_plan r.plan r.stands)) ∙ was_undecided)

  shown_new : (seen : Plan) → GoesOn (w.plans me) seen → GoesOn plan_then seen
  shown_new seen r = record { plan = new; stands = new_stands; parts = ap (λ (q : Plan). q.parts) (same_plan r.plan r.stands) ∙ r.parts; state = state_new seen r r.state }

  once_new : (count (decides me) before ≡ 0) ⊎ ((count (decides me) before ≡ 1) × ((m : Bool) × Decided (w.plans me) m))
      → (count (decides me) (Runs (Deciding me made) ∷ before) ≡ 0) ⊎ ((count (decides me) (Runs (Deciding me made) ∷ before) ≡ 1) × ((m : Bool) × Decided plan_then m))
  once_new (inl nought) = inr (more (decides me) before (Deciding me made) (same_self me) done ∙ ap (λ n. 1 + n) nought, (made, record { plan = new; stands = new_stands; state = refl }))
  once_new (inr one) = absurd (none_decided one.1.0 one.1.1)

  written_new : (group : Text) → (count (writes me group) before ≡ 0) ⊎ ((count (writes me group) before ≡ 1) × (w.dones group me ≡ Some true))
      → (count (writes me group) (Runs (Deciding me made) ∷ before) ≡ 0) ⊎ ((count (writes me group) (Runs (Deciding me made) ∷ before) ≡ 1) × (w.dones group me ≡ Some true))
  written_new group (inl nought) = inl (no_more (writes me group) before (Deciding me made) refl ∙ nought)
  written_new group (inr one) = absurd (none_done group true one.1)

  pub deciding_facts : Facts (with_plan w me (decided_as made p)) (Runs (Deciding me made) ∷ before) me
  deciding_facts = record {
    apart = λ q is. subst (λ (x : Plan). AreApart x.parts) (new_is q is) (f.apart p stands);
    planned = λ parts gave. planned_new parts (f.planned parts (past before (Deciding me made) (Planning me parts) Done gave (λ e. cc)));
    prepared = λ q is state part of. inr (prepared_new q is state part of);
    locked = λ part gave. f.locked part (past before (Deciding me made) (Preparing me part) Done gave (λ e. cc));
    free = f.free;
    finished = λ group m is. absurd (none_done group m is);
    done = λ m part gave. absurd (none_done part.group m (f.done m part (past before (Deciding me made) (Finishing me m part) Done gave (λ e. cc))).0);
    decided = decided_new;
    shown = λ seen gave. shown_new seen (f.shown seen (past before (Deciding me made) (LookingAtPlan me) (PlanIs (Some seen)) gave (λ e. cc)));
    once = once_new f.once;
    written = λ group. written_new group (f.written group);
  }

-- ---- a part is finished
module _ (w : World) (before : List Event) (me : Text) (f : Facts w before me) (made : Bool) (part : Part) (rows : Rows) (held : w.locks part.group ≡ Some me)
    (done : reply before (Finishing me made part) ≡ Done) (p : Plan) (stands : w.plans me ≡ Some p) (state : p.state ≡ state_of made) (of : In part p.parts) where
  abbrev finish : Request
  finish = Finishing me made part

  abbrev dones_here : Text → Option Bool
  dones_here = at me (Some made) (w.dones part.group)

  abbrev dones_now : Text → Text → Option Bool
  dones_now = at part.group dones_here w.dones

  abbrev locks_now : Text → Option Text
  locks_now = at part.group None w.locks

  done_here : (group : Text) → same part.group group ≡ true → dones_now group me ≡ Some made
  done_here group is = ap (λ (d : Text → Option Bool). d me) (at_same part.group group dones_here w.dones is) ∙ at_self me (Some made) (w.dones part.group)

  done_there : (group : Text) → same part.group group ≡ false → dones_now group me ≡ w.dones group me
  done_there group is = ap (λ (d : Text → Option Bool). d me) (at_other part.group group dones_here w.dones is)

  -- nothing was finished here
  none_here : (group : Text) (m : Bool) → same part.group group ≡ true → w.dones group me ≡ Some m → ⊥
  none_here group m is was = f.free group m was (ap w.locks (sym (same_is part.group group is)) ∙ held)

  same_finish : (m : Bool) (one : Part) → Finishing me made part ≡ Finishing me m one → (made ≡ m) × (part ≡ one)
  same_finish m one e = (let a : made ≡ m = cc in a, let b : part ≡ one = cc in b)

  locked_now : (one : Part) → (b : Bool) → same part.group one.group ≡ b → (w.locks one.group ≡ Some me) ⊎ ((m : Bool) × (w.dones one.group me ≡ Some m)) → (locks_now one.group ≡ Some me) ⊎ ((m : Bool) × (dones_now one.group me ≡ Some m))
  locked_now one true is was = inr (made, done_here one.group is)
  locked_now one false is (inl locked) = inl (at_other part.group one.group None w.locks is ∙ locked)
  locked_now one false is (inr found) = inr (found.0, done_there one.group is ∙ found.1)

  free_now : (group : Text) (m : Bool) (b : Bool) → same part.group group ≡ b → dones_now group me ≡ Some m → locks_now group ≡ Some me → ⊥
  free_now group m true is d l = none_some (locks_now group) me (at_same part.group group None w.locks is) l
  free_now group m false is d l = f.free group m (sym (done_there group is) ∙ d) (sym (at_other part.group group None w.locks is) ∙ l)

  finished_before : (group : Text) (m : Bool) → Finished (w.plans me) before me group m → Finished (w.plans me) (Runs finish ∷ before) me group m
  finished_before group m r = record { plan = r.plan; stands = r.stands; state = r.state; part = r.part; part_of = r.part_of; place = r.place; gave = inr r.gave }

  finished_now : (group : Text) (m : Bool) (b : Bool) → same part.group group ≡ b → dones_now group me ≡ Some m → Finished (w.plans me) (Runs finish ∷ before) me group m
  finished_now group m true is d =
      let same_made : made ≡ m = some_is made m (sym (done_here group is) ∙ d) in
      subst (Finished (w.plans me) (Runs finish ∷ before) me group) same_made
      (record { plan = p; stands = stands; state = state; part = part; part_of = of; place = same_is part.group group is; gave = inl (refl, done) })
  finished_now group m false is d = finished_before group m (f.finished group m (sym (done_there group is) ∙ d))

  done_then : (m : Bool) (one : Part) → Gave before (Finishing me m one) Done → (b : Bool) → same part.group one.group ≡ b → dones_now one.group me ≡ Some m
  done_then m one was true is = absurd (none_here one.group m is (f.done m one was).0)
  done_then m one was false is = done_there one.group is ∙ (f.done m one was).0

  done_now : (m : Bool) (one : Part) → ((finish ≡ Finishing me m one) × (reply before finish ≡ Done)) ⊎ Gave before (Finishing me m one) Done → (dones_now one.group me ≡ Some m) × PartOf (w.plans me) one
  done_now m one (inl this) =
      let e = same_finish m one this.0 in
      (coe 0 1 (i. dones_now ((e.1 i).group) me ≡ Some (e.0 i)) (done_here part.group (same_self part.group)), record { plan = p; stands = stands; part_of = subst (λ (x : Part). In x p.parts) e.1 of })
  done_now m one (inr was) = (done_then m one was (same part.group one.group) refl, (f.done m one was).1)

  never : (b : Bool) → (b && false) ≡ false
  never true = refl
  never false = refl

  elsewhere : (group : Text) → same part.group group ≡ false → (made && (same me me && same part.group group)) ≡ false
  elsewhere group is = ap (λ b. made && (same me me && b)) is ∙ ap (λ b. made && b) (never (same me me)) ∙ never made

  written_now : (group : Text) (m : Bool) → made ≡ m → (b : Bool) → same part.group group ≡ b → (count (writes me group) before ≡ 0) ⊎ ((count (writes me group) before ≡ 1) × (w.dones group me ≡ Some true))
      → (count (writes me group) (Runs finish ∷ before) ≡ 0) ⊎ ((count (writes me group) (Runs finish ∷ before) ≡ 1) × (dones_now group me ≡ Some true))
  written_now group true e true is (inl nought) = inr (
    more (writes me group) before finish (λ i. e i && (same_self me i && is i)) done ∙ ap (λ n. 1 + n) nought,
    done_here group is ∙ ap Some e,
  )
  written_now group true e false is (inl nought) = inl (no_more (writes me group) before finish (elsewhere group is) ∙ nought)
  written_now group false e true is (inl nought) = inl (no_more (writes me group) before finish (ap (λ x. x && (same me me && same part.group group)) e) ∙ nought)
  written_now group false e false is (inl nought) = inl (no_more (writes me group) before finish (elsewhere group is) ∙ nought)
  written_now group true e true is (inr one) = absurd (none_here group true is one.1)
  written_now group false e true is (inr one) = absurd (none_here group true is one.1)
  written_now group true e false is (inr one) = inr (no_more (writes me group) before finish (elsewhere group is) ∙ one.0, done_there group is ∙ one.1)
  written_now group false e false is (inr one) = inr (no_more (writes me group) before finish (elsewhere group is) ∙ one.0, done_there group is ∙ one.1)

  once_now : (count (decides me) before ≡ 0) ⊎ ((count (decides me) before ≡ 1) × ((m : Bool) × Decided (w.plans me) m))
      → (count (decides me) (Runs finish ∷ before) ≡ 0) ⊎ ((count (decides me) (Runs finish ∷ before) ≡ 1) × ((m : Bool) × Decided (w.plans me) m))
  once_now (inl nought) = inl (no_more (decides me) before finish refl ∙ nought)
  once_now (inr one) = inr (no_more (decides me) before finish refl ∙ one.0, one.1)

  pub finishing_facts : Facts (with_done w part.group me made rows) (Runs (Finishing me made part) ∷ before) me
  finishing_facts = record {
    apart = f.apart;
    planned = λ parts gave. f.planned parts (past before finish (Planning me parts) Done gave (λ e. cc));
    prepared = λ q is made one of. inr (f.prepared q is made one of);
    locked = λ one gave. locked_now one (same part.group one.group) refl (f.locked one (past before finish (Preparing me one) Done gave (λ e. cc)));
    free = λ group m is l. free_now group m (same part.group group) refl is l;
    finished = λ group m is. finished_now group m (same part.group group) refl is;
    done = done_now;
    decided = λ m gave. f.decided m (past before finish (Deciding me m) Done gave (λ e. cc));
    shown = λ seen gave. f.shown seen (past before finish (LookingAtPlan me) (PlanIs (Some seen)) gave (λ e. cc));
    once = once_now f.once;
    written = λ group. written_now group made refl (same part.group group) refl (f.written group);
  }
