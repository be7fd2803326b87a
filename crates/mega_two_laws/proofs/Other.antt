-- An event that does nothing to a change keeps its facts.
use Rattle.std.proofs.Common.{◌≡◌, ◌⊎◌, inl, inr, Bool, true, List, refl, sym, ◌∙◌, Some}
use Rattle.mega_two_laws.specs.Parts.{Part}
use Rattle.mega_two_laws.specs.World.{Text, Plan, World, Request, Planning, Preparing, Deciding, Finishing, LookingAtPlan, Done, PlanIs, Event, Gave}
use Rattle.mega_two_laws.specs.Atomic.{count, decides, writes}
use Rattle.mega_two_laws.proofs.Facts.{GoesOn, Finished, Decided, PartOf, Facts, name_of}

-- the same of this change before and after
pub record Alike (w now : World) (before events : List Event) (me : Text) : Type 0 where
  pub plans : now.plans me ≡ w.plans me
  pub dones : (group : Text) → now.dones group me ≡ w.dones group me
  pub locks_on : (group : Text) → w.locks group ≡ Some me → now.locks group ≡ Some me
  pub locks_back : (group : Text) → now.locks group ≡ Some me → w.locks group ≡ Some me
  pub gave_on : (request : Request) → Gave before request Done → Gave events request Done
  pub gave_back : (request : Request) → name_of request ≡ me → Gave events request Done → Gave before request Done
  pub shown_back : (p : Plan) → Gave events (LookingAtPlan me) (PlanIs (Some p)) → GoesOn (w.plans me) p
  pub decides_same : count (decides me) events ≡ count (decides me) before
  pub writes_same : (group : Text) → count (writes me group) events ≡ count (writes me group) before

module _ (w now : World) (before events : List Event) (me : Text) (f : Facts w before me) (a : Alike w now before events me) where
  locked_on : (part : Part) → (w.locks part.group ≡ Some me) ⊎ ((made : Bool) × (w.dones part.group me ≡ Some made)) → (now.locks part.group ≡ Some me) ⊎ ((made : Bool) × (now.dones part.group me ≡ Some made))
  locked_on part (inl held) = inl (a.locks_on part.group held)
  locked_on part (inr found) = inr (found.0, a.dones part.group ∙ found.1)

  finished_on : (group : Text) (made : Bool) → Finished (w.plans me) before me group made → Finished (now.plans me) events me group made
  finished_on group made r = record { plan = r.plan; stands = a.plans ∙ r.stands; state = r.state; part = r.part; part_of = r.part_of; place = r.place; gave = a.gave_on (Finishing me made r.part) r.gave }

  part_on : (part : Part) → PartOf (w.plans me) part → PartOf (now.plans me) part
  part_on part r = record { plan = r.plan; stands = a.plans ∙ r.stands; part_of = r.part_of }

  decided_on : (made : Bool) → Decided (w.plans me) made → Decided (now.plans me) made
  decided_on made r = record { plan = r.plan; stands = a.plans ∙ r.stands; state = r.state }

  shown_on : (p : Plan) → GoesOn (w.plans me) p → GoesOn (now.plans me) p
  shown_on p r = record { plan = r.plan; stands = a.plans ∙ r.stands; parts = r.parts; state = r.state }

  planned_on : (parts : List Part) → (p : Plan) × (w.plans me ≡ Some p) × (p.parts ≡ parts) → (p : Plan) × (now.plans me ≡ Some p) × (p.parts ≡ parts)
  planned_on parts r = (r.0, a.plans ∙ r.1, r.2)

  once_on : (count (decides me) before ≡ 0) ⊎ ((count (decides me) before ≡ 1) × ((made : Bool) × Decided (w.plans me) made))
      → (count (decides me) events ≡ 0) ⊎ ((count (decides me) events ≡ 1) × ((made : Bool) × Decided (now.plans me) made))
  once_on (inl none) = inl (a.decides_same ∙ none)
  once_on (inr one) = inr (a.decides_same ∙ one.0, (one.1.0, decided_on one.1.0 one.1.1))

  written_on : (group : Text) → (count (writes me group) before ≡ 0) ⊎ ((count (writes me group) before ≡ 1) × (w.dones group me ≡ Some true))
      → (count (writes me group) events ≡ 0) ⊎ ((count (writes me group) events ≡ 1) × (now.dones group me ≡ Some true))
  written_on group (inl none) = inl (a.writes_same group ∙ none)
  written_on group (inr one) = inr (a.writes_same group ∙ one.0, a.dones group ∙ one.1)

  done_on : (made : Bool) (part : Part) → (w.dones part.group me ≡ Some made) × PartOf (w.plans me) part → (now.dones part.group me ≡ Some made) × PartOf (now.plans me) part
  done_on made part r = (a.dones part.group ∙ r.0, part_on part r.1)

  pub alike_facts : Facts now events me
  alike_facts = record {
    apart = λ p stands. f.apart p (sym a.plans ∙ stands);
    planned = λ parts gave. planned_on parts (f.planned parts (a.gave_back (Planning me parts) refl gave));
    prepared = λ p stands made part of. a.gave_on (Preparing me part) (f.prepared p (sym a.plans ∙ stands) made part of);
    locked = λ part gave. locked_on part (f.locked part (a.gave_back (Preparing me part) refl gave));
    free = λ group made is held. f.free group made (sym (a.dones group) ∙ is) (a.locks_back group held);
    finished = λ group made is. finished_on group made (f.finished group made (sym (a.dones group) ∙ is));
    done = λ made part gave. done_on made part (f.done made part (a.gave_back (Finishing me made part) refl gave));
    decided = λ made gave. decided_on made (f.decided made (a.gave_back (Deciding me made) refl gave));
    shown = λ p gave. shown_on p (a.shown_back p gave);
    once = once_on f.once;
    written = λ group. written_on group (f.written group);
  }
