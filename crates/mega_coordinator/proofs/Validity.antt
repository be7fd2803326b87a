-- A group that is valid was validated in the present epoch, above each invalidate of it there.
use Rattle.std.proofs.Common.{◌≡◌, ℕ, ◌≤◌, ◌⊎◌, inl, inr, max, Bool, true, false, ◌&&◌, ◌||◌, cond, List, [], ◌∷◌, map, refl, sym, ap, subst, ◌∙◌, arith}
use Rattle.std.specs.Prelude.{Option, Some, None, is_none, nat_lt, option_map}
use Rattle.std.specs.Ordering.{is_eq, ordering_reverse}
use Rattle.std.specs.declared.cmp.Ordering.{Ordering}
use Rattle.std.specs.declared.cmp.Ordering.TheVariants.{Less, Equal, Greater}
use Rattle.std.specs.Cmp.Lexicographic.{nat_list_cmp_total}
use Rattle.std.proofs.lemmas.Bool.Decides.{nat_tests}
use Rattle.mega_base.specs.declared.names.Epoch.{Epoch}
use Rattle.mega_base.specs.declared.names.GroupId.{GroupId}
use Rattle.mega_coordinator.specs.declared.answers.NotValid.{NotValid}
use Rattle.mega_coordinator.specs.declared.answers.NotValid.TheVariants.{OtherEpoch, Beaten}
use Rattle.mega_coordinator.specs.declared.lease.Lease.{Lease}
use Rattle.mega_coordinator.specs.Groups.{group_cmp, is_group, is_same, refusal}
use Rattle.mega_coordinator.specs.Lease.{after_grant, after_tick, counts, left, next_lease, past_ends, tick_ends}
use Rattle.mega_coordinator.specs.History.{Call, Ticks, Grants, Passes, Invalidates, Validates, beaten, beaten_by, ends, epoch_after, is_valid, lease_of, refused, serving}
use Rattle.mega_coordinator.specs.Laws.{IsInvalidated, IsValidated, ValidatedAbove}
use Rattle.mega_coordinator.proofs.Epochs.{sound_calls}
use Rattle.mega_coordinator.proofs.Kept.{same_group}

-- ---- groups
pub group_self : (g : GroupId) → is_group g g ≡ true
group_self g = go (group_cmp g g) (nat_list_cmp_total.antisymm g.key g.key)
  where
    go : (o : Ordering) → o ≡ ordering_reverse o → is_eq o ≡ true
    go Less h = cc
    go Equal h = refl
    go Greater h = cc

left_of : (a b : Bool) → (a && b) ≡ true → a ≡ true
left_of true b h = refl
left_of false b h = h

right_of : (a b : Bool) → (a && b) ≡ true → b ≡ true
right_of true b h = h
right_of false b h = cc

none_is : (o : Option NotValid) → is_none o ≡ true → o ≡ None
none_is None h = refl
none_is (Some reason) h = cc

-- what no reason refuses: an epoch serves, and the position is not beaten
open_serves : (o : Option Epoch) (b p : ℕ) (begun : Epoch) → refusal o b p begun ≡ None → (e : Epoch) × (o ≡ Some e)
open_serves None b p begun h = cc
open_serves (Some e) b p begun h = (e, refl)

open_above : (o : Option Epoch) (b p : ℕ) (begun : Epoch) → refusal o b p begun ≡ None → b ≤ p
open_above None b p begun h = cc
open_above (Some e) b p begun h = go (is_same e begun) (nat_lt p b) refl h
  where
    go : (same below : Bool) → nat_lt p b ≡ below → cond same (cond below (Some (Beaten (record { 0 = b }))) None) (Some (OtherEpoch e)) ≡ None → b ≤ p
    go true true t h = cc
    go true false t h = grind (arith, nat_tests)
    go false below t h = cc

state_serves : (serves : Bool) (o : Option Epoch) (e : Epoch) → cond serves o None ≡ Some e → serves ≡ true
state_serves true o e h = refl
state_serves false o e h = cc

-- ---- a valid group's epoch serves
not_ended : (test valid : Bool) → cond test false valid ≡ true → test ≡ false
not_ended true valid h = cc
not_ended false valid h = refl

still_valid : (test valid : Bool) → cond test false valid ≡ true → valid ≡ true
still_valid true valid h = cc
still_valid false valid h = h

tick_serves : (cells : ℕ) (lease : Lease) (now : ℕ) → tick_ends cells lease now ≡ false → lease.serves ≡ true → (after_tick cells lease now).serves ≡ true
tick_serves cells lease now h s = ap (λ (test : Bool). (cond test (next_lease lease) (stays lease now)).serves) h ∙ s
  where
    stays : Lease → ℕ → Lease
    stays lease now = record { count = lease.count; serves = lease.serves; until = map (left now) lease.until }

grant_serves : (test : Bool) (cells : ℕ) (lease : Lease) (cell until : ℕ) → lease.serves ≡ true → (cond test (after_grant cells lease cell until) lease).serves ≡ true
grant_serves true cells lease cell until s = go lease.serves _ s
  where
    go : (serves other : Bool) → serves ≡ true → (serves || other) ≡ true
    go true other s = refl
    go false other s = cc
grant_serves false cells lease cell until s = s

past_serves : (test : Bool) (lease : Lease) → test ≡ false → lease.serves ≡ true → (cond test (next_lease lease) lease).serves ≡ true
past_serves true lease h s = cc
past_serves false lease h s = s

valid_serves : (start cells : ℕ) (calls : List Call) (g : GroupId) → is_valid start cells calls g ≡ true → (lease_of start cells calls).serves ≡ true
valid_serves start cells [] g h = cc
valid_serves start cells (Ticks now ∷ before) g h =
    tick_serves cells (lease_of start cells before) now (not_ended (tick_ends cells (lease_of start cells before) now) (is_valid start cells before g) h) (valid_serves start cells before g (still_valid (tick_ends cells (lease_of start cells before) now) (is_valid start cells before g) h))
valid_serves start cells (Grants cell e until now ∷ before) g h =
    grant_serves (counts start cells (lease_of start cells before) cell e until now) cells (lease_of start cells before) cell until (valid_serves start cells before g h)
valid_serves start cells (Passes e ∷ before) g h =
    past_serves (past_ends start (lease_of start cells before) e) (lease_of start cells before) (not_ended (past_ends start (lease_of start cells before) e) (is_valid start cells before g) h) (valid_serves start cells before g (still_valid (past_ends start (lease_of start cells before) e) (is_valid start cells before g) h))
valid_serves start cells (Invalidates other n ∷ before) g h = valid_serves start cells before g (still_valid (is_group other g) (is_valid start cells before g) h)
valid_serves start cells (Validates other p begun ∷ before) g h = go (is_group other g && is_none (refused start cells before other p begun)) refl (valid_serves start cells before g) h
  where
    go : (test : Bool) → (is_group other g && is_none (refused start cells before other p begun)) ≡ test → (is_valid start cells before g ≡ true → (lease_of start cells before).serves ≡ true) → cond test true (is_valid start cells before g) ≡ true → (lease_of start cells before).serves ≡ true
    go true t rest h =
        let lawful = none_is (refused start cells before other p begun) (right_of (is_group other g) (is_none (refused start cells before other p begun)) t) in
        let served = open_serves (serving start cells before) (beaten start cells before other) p begun lawful in
        state_serves (lease_of start cells before).serves (epoch_after start cells before) served.0 served.1
    go false t rest h = rest h

-- ---- a valid group was validated
pub record Lawful (start cells : ℕ) (calls : List Call) (g : GroupId) : Type 0 where
  pub position : ℕ
  pub validated : IsValidated start cells calls g position
  pub unbeaten : beaten start cells calls g ≤ position

unended : (test : Bool) (b : ℕ) → test ≡ false → cond test 0 b ≡ b
unended true b h = cc
unended false b h = refl

-- a call that neither ends the epoch nor speaks of the group
lawful_more : (start cells : ℕ) (call : Call) (before : List Call) (g : GroupId) → ends start cells before call ≡ false → beaten_by call g (beaten start cells before g) ≡ beaten start cells before g → Lawful start cells before g → Lawful start cells (call ∷ before) g
lawful_more start cells call before g goes_on same lawful = record {
  position = lawful.position;
  validated = (goes_on, inr lawful.validated);
  unbeaten = subst (λ b. b ≤ lawful.position) (sym (unended (ends start cells before call) (beaten_by call g (beaten start cells before g)) goes_on ∙ same)) lawful.unbeaten;
}

valid_lawful : (start cells : ℕ) (calls : List Call) (g : GroupId) → is_valid start cells calls g ≡ true → Lawful start cells calls g
valid_lawful start cells [] g h = cc
valid_lawful start cells (Ticks now ∷ before) g h =
    lawful_more start cells (Ticks now) before g (not_ended (tick_ends cells (lease_of start cells before) now) (is_valid start cells before g) h) refl (valid_lawful start cells before g (still_valid (tick_ends cells (lease_of start cells before) now) (is_valid start cells before g) h))
valid_lawful start cells (Grants cell e until now ∷ before) g h = lawful_more start cells (Grants cell e until now) before g refl refl (valid_lawful start cells before g h)
valid_lawful start cells (Passes e ∷ before) g h =
    lawful_more start cells (Passes e) before g (not_ended (past_ends start (lease_of start cells before) e) (is_valid start cells before g) h) refl (valid_lawful start cells before g (still_valid (past_ends start (lease_of start cells before) e) (is_valid start cells before g) h))
valid_lawful start cells (Invalidates other n ∷ before) g h =
    lawful_more start cells (Invalidates other n) before g refl (untouched (is_group other g) (not_ended (is_group other g) (is_valid start cells before g) h)) (valid_lawful start cells before g (still_valid (is_group other g) (is_valid start cells before g) h))
  where
    untouched : (test : Bool) → test ≡ false → cond test (max n (beaten start cells before g)) (beaten start cells before g) ≡ beaten start cells before g
    untouched true t = cc
    untouched false t = refl
valid_lawful start cells (Validates other p begun ∷ before) g h = go (is_group other g && is_none (refused start cells before other p begun)) refl (valid_lawful start cells before g) h
  where
    go : (test : Bool) → (is_group other g && is_none (refused start cells before other p begun)) ≡ test → (is_valid start cells before g ≡ true → Lawful start cells before g) → cond test true (is_valid start cells before g) ≡ true → Lawful start cells (Validates other p begun ∷ before) g
    go true t rest h =
        let lawful = none_is (refused start cells before other p begun) (right_of (is_group other g) (is_none (refused start cells before other p begun)) t) in
        let same = same_group other g (left_of (is_group other g) (is_none (refused start cells before other p begun)) t) in
        record {
          position = p;
          validated = (refl, inl (begun, ap (λ (k : GroupId). Validates k p begun) same, subst (λ (k : GroupId). refused start cells before k p begun ≡ None) same lawful));
          unbeaten = subst (λ (k : GroupId). beaten start cells before k ≤ p) same (open_above (serving start cells before) (beaten start cells before other) p begun lawful);
        }
    go false t rest h = lawful_more start cells (Validates other p begun) before g refl refl (rest h)

-- ---- each invalidate is at most the greatest
beaten_rises : (call : Call) (g : GroupId) (b : ℕ) → b ≤ beaten_by call g b
beaten_rises (Ticks now) g b = omega arith
beaten_rises (Grants cell e until now) g b = omega arith
beaten_rises (Passes e) g b = omega arith
beaten_rises (Invalidates other n) g b = go (is_group other g)
  where
    go : (test : Bool) → b ≤ cond test (max n b) b
    go true = omega arith
    go false = omega arith
beaten_rises (Validates other p begun) g b = omega arith

beaten_here : (call : Call) (g : GroupId) (n b : ℕ) → call ≡ Invalidates g n → n ≤ beaten_by call g b
beaten_here call g n b e = subst (λ (c : Call). n ≤ beaten_by c g b) (sym e) (go (is_group g g) (group_self g))
  where
    go : (test : Bool) → test ≡ true → n ≤ cond test (max n b) b
    go true t = omega arith
    go false t = cc

invalidates_beaten : (start cells : ℕ) (calls : List Call) (g : GroupId) (n : ℕ) → IsInvalidated start cells calls g n → n ≤ beaten start cells calls g
invalidates_beaten start cells [] g n none = absurd (none tt)
invalidates_beaten start cells (call ∷ before) g n h =
    subst (λ b. n ≤ b) (sym (unended (ends start cells before call) (beaten_by call g (beaten start cells before g)) h.0)) (go h.1 (invalidates_beaten start cells before g n))
  where
    go : (call ≡ Invalidates g n) ⊎ IsInvalidated start cells before g n → (IsInvalidated start cells before g n → n ≤ beaten start cells before g) → n ≤ beaten_by call g (beaten start cells before g)
    go (inl e) rest = beaten_here call g n (beaten start cells before g) e
    go (inr earlier) rest = let a = rest earlier in let b = beaten_rises call g (beaten start cells before g) in omega arith

-- ---- the law
abbrev numbered : ℕ → ℕ → Epoch
numbered start count = record { start = start; count = count }

serving_there : (start cells : ℕ) (calls : List Call) → (lease_of start cells calls).serves ≡ true → (e : Epoch) × (serving start cells calls ≡ Some e)
serving_there start cells calls s = go (lease_of start cells calls).serves (lease_of start cells calls).count s (sound_calls start cells calls).idle
  where
    go : (serves : Bool) (o : Option ℕ) → serves ≡ true → (o ≡ None → serves ≡ false) → (e : Epoch) × (cond serves (option_map (numbered start) o) None ≡ Some e)
    go true None s idle = let f = idle refl in cc
    go true (Some count) s idle = (record { start = start; count = count }, refl)
    go false o s idle = cc

pub validated_above : (start cells : ℕ) (calls : List Call) (g : GroupId) → is_valid start cells calls g ≡ true → ValidatedAbove start cells calls g
validated_above start cells calls g h =
    let served = serving_there start cells calls (valid_serves start cells calls g h) in
    let lawful = valid_lawful start cells calls g h in
    record {
      epoch = served.0;
      serves = served.1;
      position = lawful.position;
      validated = lawful.validated;
      above = λ n there. let least = invalidates_beaten start cells calls g n there in let most = lawful.unbeaten in omega arith;
    }
