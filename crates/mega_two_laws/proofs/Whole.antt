-- Every history keeps the facts of every change, and so each change is made whole or not at all.
use Rattle.std.proofs.Common.{◌≡◌, ◌⊎◌, inl, inr, Bool, true, false, List, [], ◌∷◌, refl, sym, ap, ◌∙◌, subst, arith, Some}
use Rattle.mega_two_laws.specs.Parts.{Part, Rows}
use Rattle.mega_two_laws.specs.World.{Text, same, Made, Dropped, Plan, state_of, no_world, with_rows, world, Finishing, Done, Event, Runs, Writes, Gave}
use Rattle.mega_two_laws.specs.Driver.{Ending, Ended, Driver, IsReachable, AreApart, IsNew, IsHistory}
use Rattle.mega_two_laws.specs.Atomic.{In, IsMade, IsAtomic, EndsTruly}
use Rattle.mega_two_laws.proofs.Names.{same_self}
use Rattle.mega_two_laws.proofs.Facts.{Facts}
use Rattle.mega_two_laws.proofs.Other.{alike_facts}
use Rattle.mega_two_laws.proofs.History.{fit_of, ready_of, ends_truly}
use Rattle.mega_two_laws.proofs.Kept.{run_kept}

none_facts : (me : Text) → Facts no_world [] me
none_facts me = record {
  apart = λ p stands. absurd (cc);
  planned = λ parts gave. absurd gave;
  prepared = λ p stands made part of. absurd (cc);
  locked = λ part gave. absurd gave;
  free = λ group made is held. cc;
  finished = λ group made is. absurd (cc);
  done = λ made part gave. absurd gave;
  decided = λ made gave. absurd gave;
  shown = λ p gave. absurd gave;
  once = inl refl;
  written = λ group. inl refl;
}

written_facts : (before : List Event) (group : Text) (rows : Rows) (me : Text) → Facts (world before) before me → Facts (with_rows (world before) group rows) (Writes group rows ∷ before) me
written_facts before group rows me f = alike_facts (world before) (with_rows (world before) group rows) before (Writes group rows ∷ before) me f (record {
  plans = refl;
  dones = λ group. refl;
  locks_on = λ group held. held;
  locks_back = λ group held. held;
  gave_on = λ request gave. gave;
  gave_back = λ request of gave. gave;
  shown_back = λ p gave. f.shown p gave;
  decides_same = refl;
  writes_same = λ group. refl;
})

pub facts_of : (events : List Event) → IsHistory events → (me : Text) → Facts (world events) events me
facts_of [] h me = none_facts me
facts_of (Runs request ∷ before) h me =
    let facts = facts_of before h.1 in
    let asked = h.0 in
    run_kept before facts me request (ready_of before facts (asked.0).name (asked.0).parts (asked.0).phase (fit_of before facts asked.0 asked.1) request asked.2)
facts_of (Writes group rows ∷ before) h me = written_facts before group rows me (facts_of before h me)

-- ---- parts of different groups

some_same : {A : Type 0} (x y : A) → Some x ≡ Some y → x ≡ y
some_same x y e = cc

not_new : (parts : List Part) (group : Text) (part : Part) → IsNew group parts → In part parts → part.group ≡ group → ⊥
not_new [] group part fresh of e = of
not_new (other ∷ parts) group part fresh (inl this) e =
    let same_group : other.group ≡ group = ap (λ (p : Part). p.group) this ∙ e in
    let wrong : true ≡ false = sym (same_self group) ∙ ap (same group) (sym same_group) ∙ fresh.0 in
    cc
not_new (other ∷ parts) group part fresh (inr of) e = not_new parts group part fresh.1 of e

apart_same : (parts : List Part) → AreApart parts → (one two : Part) → In one parts → In two parts → one.group ≡ two.group → one ≡ two
apart_same [] apart one two of also e = absurd of
apart_same (part ∷ parts) apart one two (inl this) (inl that) e = sym this ∙ that
apart_same (part ∷ parts) apart one two (inl this) (inr also) e = absurd (not_new parts part.group two apart.0 also (sym e ∙ sym (ap (λ (p : Part). p.group) this)))
apart_same (part ∷ parts) apart one two (inr of) (inl that) e = absurd (not_new parts part.group one apart.0 of (e ∙ sym (ap (λ (p : Part). p.group) that)))
apart_same (part ∷ parts) apart one two (inr of) (inr also) e = apart_same parts apart.1 one two of also e

-- ---- the law

not_dropped : (made : Bool) → state_of made ≡ Made → made ≡ true
not_dropped true e = refl
not_dropped false e = absurd (cc)

atomic : (events : List Event) (name : Text) → Facts (world events) events name → IsAtomic events name
atomic events name f = record {
  once = elim f.once [ inl nought ↦ omega (arith, nought) | inr one ↦ omega (arith, one.0) ];
  prepared = λ plan is part of. f.prepared plan is.stands is.made part of;
  written_once = λ group. (elim (f.written group) [ inl nought ↦ omega (arith, nought) | inr one ↦ omega (arith, one.0) ]);
  written_after = λ part gave. (
      let d = f.done true part gave in
      let r = f.finished part.group true d.0 in
      let same_plan : r.plan ≡ (d.1).plan = some_same r.plan (d.1).plan (sym r.stands ∙ (d.1).stands) in
      ((d.1).plan, record { stands = (d.1).stands; made = ap (λ (p : Plan). p.state) (sym same_plan) ∙ r.state }, (d.1).part_of));
  held = λ plan is part of. by_held plan is part of (f.locked part (f.prepared plan is.stands is.made part of));
  never_dropped = λ plan is part gave. (
      let d = f.done false part gave in
      let r = f.finished part.group false d.0 in
      let e : Dropped ≡ Made = sym r.state ∙ ap (λ (p : Plan). p.state) (some_same r.plan plan (sym r.stands ∙ is.stands)) ∙ is.made in
      cc);
}
  where
    by_held : (plan : Plan) → IsMade events name plan → (part : Part) → In part plan.parts → ((world events).locks part.group ≡ Some name) ⊎ ((made : Bool) × ((world events).dones part.group name ≡ Some made))
        → ((world events).locks part.group ≡ Some name) ⊎ Gave events (Finishing name true part) Done
    by_held plan is part of (inl held) = inl held
    by_held plan is part of (inr found) =
        let r = f.finished part.group found.0 found.1 in
        let same_plan : r.plan ≡ plan = some_same r.plan plan (sym r.stands ∙ is.stands) in
        let made : found.0 ≡ true = not_dropped found.0 (sym r.state ∙ ap (λ (p : Plan). p.state) same_plan ∙ is.made) in
        let same_part : r.part ≡ part = apart_same plan.parts (f.apart plan is.stands) r.part part (subst (λ (p : Plan). In r.part p.parts) same_plan r.part_of) of r.place in
        inr (coe 0 1 (i. Gave events (Finishing name (made i) (same_part i)) Done) r.gave)

pub changes_atomic : (events : List Event) → IsHistory events → (name : Text) → IsAtomic events name
changes_atomic events h name = atomic events name (facts_of events h name)

pub endings_true : (events : List Event) → IsHistory events → (d : Driver) (ending : Ending) → IsReachable events d → d.phase ≡ Ended ending → EndsTruly events d.name ending
endings_true events h d ending r ended = ends_truly events (facts_of events h) d ending r ended
