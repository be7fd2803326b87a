-- What the lease of a coordinator keeps true over any list of calls.
use Rattle.std.proofs.Common.{◌≡◌, ℕ, zero, suc, ◌+◌, ◌-◌, ◌/◌, ◌<◌, ◌≤◌, ◌==◌, ◌&&◌, ◌||◌, Bool, true, false, not, cond, List, [], ◌∷◌, map, set, get_or, refl, sym, ap, subst, ◌∙◌, arith, zero-add}
use Rattle.std.specs.Prelude.{Option, Some, None, is_some, count_by, nat_lt, max, unwrap_or, option_map}
use Rattle.std.specs.List.{list_any}
use Rattle.std.specs.Option.{option_map_or}
use Rattle.std.proofs.lemmas.Bool.Decides.{nat_tests}
use Rattle.std.proofs.lemmas.List.Sums.{sum_by-cons}
use Rattle.mega_base.specs.declared.names.Epoch.{Epoch}
use Rattle.mega_coordinator.specs.declared.lease.Lease.{Lease}
use Rattle.mega_coordinator.specs.Lease.{after_grant, after_tick, counted_by, counts, first_lease, granted_lease, is_due, is_majority, is_present, left, next_count, next_lease, none_counted, past_ends, past_lease, tick_ends}
use Rattle.mega_coordinator.specs.History.{Call, Ticks, Grants, Passes, Invalidates, Validates, ends, epoch_after, lease_of, serving}
use Rattle.mega_coordinator.specs.Laws.{ServesAlone, endings, epoch_at, is_counted}

-- the count of the epoch after so many endings
abbrev pub count_at : ℕ → Option ℕ
count_at n = cond (nat_lt n 4294967296) (Some n) None

-- after so many endings
pub record Sound (cells : ℕ) (lease : Lease) (n : ℕ) : Type 0 where
  pub count : lease.count ≡ count_at n
  pub bound : n ≤ 4294967296
  pub idle : lease.count ≡ None → lease.serves ≡ false
  pub empty : lease.count ≡ None → lease.until ≡ none_counted
  pub majority : lease.serves ≡ true → cells / 2 + 1 ≤ count_by is_some lease.until

-- ---- counts
next_is : (n : ℕ) → n < 4294967296 → next_count (Some n) ≡ count_at (1 + n)
next_is n h = grind (arith, nat_tests)

count_below : (n : ℕ) (c : ℕ) → count_at n ≡ Some c → n < 4294967296
count_below n c e = grind (arith, nat_tests)

there : (o : Option ℕ) → (o ≡ None → ⊥) → (c : ℕ) × (o ≡ Some c)
there None h = absurd (h refl)
there (Some c) h = (c, refl)

sound_next : (cells : ℕ) (lease : Lease) (n : ℕ) → Sound cells lease n → (lease.count ≡ None → ⊥) → Sound cells (next_lease lease) (1 + n)
sound_next cells lease n sound busy = record {
  count = ap next_count sound.count ∙ (ap next_count count_is ∙ next_is n below);
  bound = omega (arith, below);
  idle = λ none. refl;
  empty = λ none. refl;
  majority = λ serves. cc;
}
  where
    count_there : (c : ℕ) × (lease.count ≡ Some c)
    count_there = there lease.count busy

    below : n < 4294967296
    below = count_below n count_there.0 (sym sound.count ∙ count_there.1)

    count_is : count_at n ≡ Some n
    count_is = grind (arith, nat_tests)

-- ---- counting
count_set : (xs : List (Option ℕ)) (i v : ℕ) → count_by is_some xs ≤ count_by is_some (set xs i (Some v))
count_set [] i v = omega arith
count_set (x ∷ xs) zero v = let a = sum_by-cons (λ (o : Option ℕ). cond (is_some o) 1 0) x xs in let b = sum_by-cons (λ (o : Option ℕ). cond (is_some o) 1 0) (Some v) xs in omega (arith, a, b, at_most_one x)
  where
    at_most_one : (o : Option ℕ) → cond (is_some o) 1 0 ≤ 1
    at_most_one None = omega arith
    at_most_one (Some y) = omega arith
count_set (x ∷ xs) (suc i) v = let a = sum_by-cons (λ (o : Option ℕ). cond (is_some o) 1 0) x xs in let b = sum_by-cons (λ (o : Option ℕ). cond (is_some o) 1 0) x (set xs i (Some v)) in omega (arith, a, b, count_set xs i v)

-- ---- a tick
tick_busy : (cells : ℕ) (lease : Lease) (n now : ℕ) → Sound cells lease n → tick_ends cells lease now ≡ true → lease.count ≡ None → ⊥
tick_busy cells lease n now sound h none = go lease.serves lease.until (sound.idle none) (sound.empty none) h
  where
    go : (serves : Bool) (until : List (Option ℕ)) → serves ≡ false → until ≡ none_counted → cond serves (not (is_majority cells (map (left now) until))) (list_any (is_due now) until) ≡ true → ⊥
    go true until s u h = cc
    go false until s u h = let e : list_any (is_due now) none_counted ≡ true = ap (list_any (is_due now)) (sym u) ∙ h in cc

left_majority : (cells : ℕ) (serves : Bool) (until : List (Option ℕ)) (other : Bool) → cond serves (not (is_majority cells until)) other ≡ false → serves ≡ true → cells / 2 + 1 ≤ count_by is_some until
left_majority cells true until other h s = grind (arith, nat_tests)
left_majority cells false until other h s = cc

sound_tick : (cells : ℕ) (lease : Lease) (n now : ℕ) → Sound cells lease n → Sound cells (after_tick cells lease now) (cond (tick_ends cells lease now) 1 0 + n)
sound_tick cells lease n now sound = go (tick_ends cells lease now) refl
  where
    stays : tick_ends cells lease now ≡ false → Sound cells (record { count = lease.count; serves = lease.serves; until = map (left now) lease.until }) n
    stays h = record {
      count = sound.count;
      bound = sound.bound;
      idle = sound.idle;
      empty = λ none. ap (map (left now)) (sound.empty none);
      majority = left_majority cells lease.serves (map (left now) lease.until) (list_any (is_due now) lease.until) h;
    }

    go : (test : Bool) → tick_ends cells lease now ≡ test → Sound cells (cond test (next_lease lease) (record { count = lease.count; serves = lease.serves; until = map (left now) lease.until })) (cond test 1 0 + n)
    go true h = sound_next cells lease n sound (tick_busy cells lease n now sound h)
    go false h = rw zero-add (stays h)

-- ---- a past
present_busy : (start : ℕ) (lease : Lease) (e : Epoch) → is_present start lease e ≡ true → lease.count ≡ None → ⊥
present_busy start lease e h none = go lease.count none h
  where
    go : (o : Option ℕ) → o ≡ None → option_map_or (λ count. e.start == start && e.count == count) o false ≡ true → ⊥
    go None none h = cc
    go (Some c) none h = cc

left_of : (a b : Bool) → (a && b) ≡ true → a ≡ true
left_of true b h = refl
left_of false b h = h

sound_past : (start cells : ℕ) (lease : Lease) (n : ℕ) (e : Epoch) → Sound cells lease n → Sound cells (past_lease start lease e) (cond (past_ends start lease e) 1 0 + n)
sound_past start cells lease n e sound = go (past_ends start lease e) refl
  where
    go : (test : Bool) → past_ends start lease e ≡ test → Sound cells (cond test (next_lease lease) lease) (cond test 1 0 + n)
    go true h = sound_next cells lease n sound (present_busy start lease e (left_of (is_present start lease e) (not lease.serves) h))
    go false h = rw zero-add sound

-- ---- a grant
grant_majority : (cells : ℕ) (serves : Bool) (until : List (Option ℕ)) (i v : ℕ) → (serves ≡ true → cells / 2 + 1 ≤ count_by is_some until) → (serves || is_majority cells (set until i (Some v))) ≡ true → cells / 2 + 1 ≤ count_by is_some (set until i (Some v))
grant_majority cells true until i v before h = let a = before refl in omega (arith, a, count_set until i v)
grant_majority cells false until i v before h = grind (arith, nat_tests)

sound_grant : (start cells : ℕ) (lease : Lease) (n cell : ℕ) (e : Epoch) (until now : ℕ) → Sound cells lease n → Sound cells (granted_lease start cells lease cell e until now) n
sound_grant start cells lease n cell e until now sound = go (counts start cells lease cell e until now) refl
  where
    present : counts start cells lease cell e until now ≡ true → is_present start lease e ≡ true
    present h = left_of (is_present start lease e) _ (left_of _ _ (left_of _ _ (left_of _ _ h)))

    go : (test : Bool) → counts start cells lease cell e until now ≡ test → Sound cells (cond test (after_grant cells lease cell until) lease) n
    go true h = record {
      count = sound.count;
      bound = sound.bound;
      idle = λ none. absurd (present_busy start lease e (present h) none);
      empty = λ none. absurd (present_busy start lease e (present h) none);
      majority = grant_majority cells lease.serves lease.until (cell - 1) (max until (unwrap_or (counted_by lease cell) 0)) sound.majority;
    }
    go false h = sound

-- ---- all calls
sound_first : (cells : ℕ) → Sound cells first_lease 0
sound_first cells = record {
  count = refl;
  bound = omega arith;
  idle = λ none. refl;
  empty = λ none. refl;
  majority = λ serves. cc;
}

pub sound_calls : (start cells : ℕ) (calls : List Call) → Sound cells (lease_of start cells calls) (endings start cells calls)
sound_calls start cells [] = sound_first cells
sound_calls start cells (Ticks now ∷ before) = sound_tick cells (lease_of start cells before) (endings start cells before) now (sound_calls start cells before)
sound_calls start cells (Grants cell e until now ∷ before) = rw zero-add (sound_grant start cells (lease_of start cells before) (endings start cells before) cell e until now (sound_calls start cells before))
sound_calls start cells (Passes e ∷ before) = sound_past start cells (lease_of start cells before) (endings start cells before) e (sound_calls start cells before)
sound_calls start cells (Invalidates group n ∷ before) = rw zero-add (sound_calls start cells before)
sound_calls start cells (Validates group n begun ∷ before) = rw zero-add (sound_calls start cells before)

abbrev numbered : ℕ → ℕ → Epoch
numbered start count = record { start = start; count = count }

epoch_by : (start n : ℕ) (o : Option ℕ) → o ≡ count_at n → option_map (numbered start) o ≡ epoch_at start n
epoch_by start n o e = ap (option_map (numbered start)) e ∙ go (nat_lt n 4294967296)
  where
    go : (test : Bool) → option_map (numbered start) (cond test (Some n) None) ≡ cond test (Some (numbered start n)) None
    go true = refl
    go false = refl

pub epoch_counts : (start cells : ℕ) (calls : List Call) → epoch_after start cells calls ≡ epoch_at start (endings start cells calls)
epoch_counts start cells calls = epoch_by start (endings start cells calls) (lease_of start cells calls).count (sound_calls start cells calls).count

state_serves : (serves : Bool) (o : Option Epoch) (e : Epoch) → cond serves o None ≡ Some e → serves ≡ true
state_serves true o e h = refl
state_serves false o e h = cc

state_epoch : (serves : Bool) (o : Option Epoch) (e : Epoch) → cond serves o None ≡ Some e → o ≡ Some e
state_epoch true o e h = h
state_epoch false o e h = cc

epoch_is : (start n : ℕ) (e : Epoch) → epoch_at start n ≡ Some e → e ≡ record { start = start; count = n }
epoch_is start n e h = go (nat_lt n 4294967296) h
  where
    go : (test : Bool) → cond test (Some (record { start = start; count = n })) None ≡ Some e → e ≡ record { start = start; count = n }
    go true h = cc
    go false h = cc

pub serves_alone : (start cells : ℕ) (calls : List Call) (e : Epoch) → serving start cells calls ≡ Some e → ServesAlone start cells calls e
serves_alone start cells calls e h = record {
  present = epoch_is start (endings start cells calls) e (sym (epoch_counts start cells calls) ∙ state_epoch (lease_of start cells calls).serves (epoch_after start cells calls) e h);
  majority = (sound_calls start cells calls).majority (state_serves (lease_of start cells calls).serves (epoch_after start cells calls) e h);
}

-- ---- the counted cells of a serving epoch
get_map : (f : Option ℕ → Option ℕ) (xs : List (Option ℕ)) (i : ℕ) → f None ≡ None → get_or (map f xs) i None ≡ f (get_or xs i None)
get_map f [] i h = sym h
get_map f (x ∷ xs) zero h = refl
get_map f (x ∷ xs) (suc i) h = get_map f xs i h

was_counted : (now : ℕ) (o : Option ℕ) → is_some (left now o) ≡ true → is_some o ≡ true
was_counted now None h = h
was_counted now (Some t) h = refl

set_counts : (xs : List (Option ℕ)) (k i v : ℕ) → is_some (get_or xs k None) ≡ true → is_some (get_or (set xs k (Some v)) i None) ≡ true → is_some (get_or xs i None) ≡ true
set_counts [] k i v h e = e
set_counts (x ∷ xs) zero zero v h e = h
set_counts (x ∷ xs) zero (suc i) v h e = e
set_counts (x ∷ xs) (suc k) zero v h e = e
set_counts (x ∷ xs) (suc k) (suc i) v h e = set_counts xs k i v h e

right_of : (a b : Bool) → (a && b) ≡ true → b ≡ true
right_of true b h = h
right_of false b h = cc

frozen_tick : (cells : ℕ) (lease : Lease) (now i : ℕ) → tick_ends cells lease now ≡ false → is_some (get_or (after_tick cells lease now).until i None) ≡ true → is_some (get_or lease.until i None) ≡ true
frozen_tick cells lease now i h e = was_counted now (get_or lease.until i None) (sym (ap is_some (ap (λ (test : Bool). get_or (cond test (next_lease lease) (record { count = lease.count; serves = lease.serves; until = map (left now) lease.until })).until i None) h ∙ get_map (left now) lease.until i refl)) ∙ e)

frozen_grant : (start cells : ℕ) (lease : Lease) (cell : ℕ) (e : Epoch) (until now i : ℕ) → lease.serves ≡ true → is_some (get_or (granted_lease start cells lease cell e until now).until i None) ≡ true → is_some (get_or lease.until i None) ≡ true
frozen_grant start cells lease cell e until now i s = go (counts start cells lease cell e until now) refl
  where
    there_before : (not lease.serves || is_some (counted_by lease cell)) ≡ true → is_some (counted_by lease cell) ≡ true
    there_before = subst (λ (serves : Bool). (not serves || is_some (counted_by lease cell)) ≡ true → is_some (counted_by lease cell) ≡ true) (sym s) (λ h. h)

    go : (test : Bool) → counts start cells lease cell e until now ≡ test → is_some (get_or (cond test (after_grant cells lease cell until) lease).until i None) ≡ true → is_some (get_or lease.until i None) ≡ true
    go true t h = set_counts lease.until (cell - 1) i _ (there_before (right_of _ (not lease.serves || is_some (counted_by lease cell)) t)) h
    go false t h = h

pub frozen : (start cells : ℕ) (call : Call) (before : List Call) (e : Epoch) (cell : ℕ) → serving start cells before ≡ Some e → ends start cells before call ≡ false → is_counted start cells (call ∷ before) cell ≡ true → is_counted start cells before cell ≡ true
frozen start cells (Ticks now) before e cell s h k = frozen_tick cells (lease_of start cells before) now (cell - 1) h k
frozen start cells (Grants other f until now) before e cell s h k = frozen_grant start cells (lease_of start cells before) other f until now (cell - 1) (state_serves (lease_of start cells before).serves (epoch_after start cells before) e s) k
frozen start cells (Passes f) before e cell s h k = subst (λ (test : Bool). is_some (get_or (cond test (next_lease (lease_of start cells before)) (lease_of start cells before)).until (cell - 1) None) ≡ true → is_some (get_or (lease_of start cells before).until (cell - 1) None) ≡ true) (sym h) (λ j. j) k
frozen start cells (Invalidates group n) before e cell s h k = k
frozen start cells (Validates group n begun) before e cell s h k = k
