-- What a node notes and sends leaves what it decided and accepted as it was, but for a decision and an acceptance.
use Rattle.std.proofs.Common.{◌≡◌, ◌⊎◌, inl, inr, ℕ, ◌==◌, ◌&&◌, ◌≤◌, ◌<◌, max, nat_lt, Bool, true, false, cond, List, [], ◌∷◌, flat_map, map, Option, Some, None, is_none, refl, ap, ◌∙◌, subst, arith}
use Rattle.std.proofs.lemmas.Bool.Decides.{nat_tests}
use Rattle.mega_base.specs.declared.names.GroupId.{GroupId}
use Rattle.mega_entry.specs.declared.content.Content.{Content}
use Rattle.mega_wire.specs.declared.message.Message.{Message}
use Rattle.mega_wire.specs.declared.message.Body.{Body}
use Rattle.mega_wire.specs.declared.message.Body.TheVariants.{Accepted}
use Rattle.mega_wal.specs.Same.{same_group}
use Rattle.mega_wal.proofs.Sames.{same_group_self}
use Rattle.mega_leased_laws.specs.of_run_laws.of_tape_laws.of_promises.of_rules.Met.{Met, Starts, Crashes, Sends, Unsends, Decides, Applies}
use Rattle.mega_leased_laws.specs.of_run_laws.of_tape_laws.of_promises.of_rules.Clock.{is_up}
use Rattle.mega_leased_laws.specs.of_run_laws.of_tape_laws.of_promises.of_rules.Logs.{accepted_at, decided, first_of, groups_of, top_of}
use Rattle.mega_leased_laws.specs.of_run_laws.of_tape_laws.of_promises.of_rules.Members.{has_rows}
use Rattle.mega_leased_laws.specs.of_run_laws.of_tape_laws.of_promises.of_rules.Operations.{Setting}
use Rattle.mega_leased_laws.specs.of_run_laws.of_tape_laws.of_promises.of_rules.Steps.{Decision, applied_at, apply_note, apply_notes, decision_note, if_new, onto}
use Rattle.mega_leased_laws.specs.of_run_laws.Justified.{Each}
use Rattle.mega_leased_laws.proofs.of_run_laws.Events.{each_append as each_both}
use Rattle.mega_calm_laws.proofs.Mail.{number_is, number_self}

-- ---- notes that leave all as it was

abbrev pub IsNoVote : Body → Type 0
IsNoVote (Accepted op g n b e) = ⊥
IsNoVote _ = Unit {0}

abbrev pub IsStill : Met → Type 0
IsStill (Starts start) = ⊥
IsStill Crashes = ⊥
IsStill (Decides g n e) = ⊥
IsStill (Unsends m) = ⊥
IsStill (Sends m) = IsNoVote m.body
IsStill _ = Unit {0}

pub record SameLogs (old new : List Met) : Type 0 where
  pub decided : (g : GroupId) (n : ℕ) → decided new g n ≡ decided old g n
  pub top : (g : GroupId) → top_of new g ≡ top_of old g
  pub up : is_up new ≡ is_up old

pub same_logs : (met : List Met) → SameLogs met met
same_logs met = record { decided = λ g n. refl; top = λ g. refl; up = refl }

pub logs_then : (old mid new : List Met) → SameLogs old mid → SameLogs mid new → SameLogs old new
logs_then old mid new a b = record { decided = λ g n. b.decided g n ∙ a.decided g n; top = λ g. b.top g ∙ a.top g; up = b.up ∙ a.up }

no_vote : (g : GroupId) (body : Body) → IsNoVote body → accepted_at g body ≡ 0
no_vote g (Accepted op h n b e) none = absurd none
no_vote g _ none = refl

max_zero : (a : ℕ) → max 0 a ≡ a
max_zero a = omega arith

pub still_one : (one : Met) (met : List Met) → IsStill one → SameLogs met (one ∷ met)
still_one (Starts start) met h = absurd h
still_one Crashes met h = absurd h
still_one (Decides g n e) met h = absurd h
still_one (Unsends m) met h = absurd h
still_one (Sends m) met h = record { decided = λ g n. refl; top = λ g. ap (λ a. max a (top_of met g)) (no_vote g m.body h) ∙ max_zero (top_of met g); up = refl }
still_one _ met h = record { decided = λ g n. refl; top = λ g. refl; up = refl }

pub still_onto : (notes met : List Met) → Each IsStill notes → SameLogs met (onto notes met)
still_onto [] met h = same_logs met
still_onto (one ∷ notes) met h = logs_then met (one ∷ met) (onto notes (one ∷ met)) (still_one one met h.0) (still_onto notes (one ∷ met) h.1)

pub sends_still : (ms : List Message) → Each (λ (m : Message). IsNoVote m.body) ms → Each IsStill (map Sends ms)
sends_still [] h = tt
sends_still (m ∷ ms) h = (h.0, sends_still ms h.1)

-- ---- what is applied

apply_still : (was : List Met) (was_stored : GroupId → ℕ) (met : List Met) (stored : GroupId → ℕ) (g : GroupId) → Each IsStill (apply_note was was_stored met stored g)
apply_still was was_stored met stored g = by (nat_lt (applied_at was was_stored g) (applied_at met stored g))
  where
    by : (t : Bool) → Each IsStill (cond t (Applies g (applied_at met stored g) ∷ []) [])
    by true = (tt, tt)
    by false = tt

all_apply_still : (was : List Met) (was_stored : GroupId → ℕ) (met : List Met) (stored : GroupId → ℕ) (gs : List GroupId) → Each IsStill (flat_map (apply_note was was_stored met stored) gs)
all_apply_still was was_stored met stored [] = tt
all_apply_still was was_stored met stored (g ∷ gs) =
    each_both IsStill (apply_note was was_stored met stored g) (flat_map (apply_note was was_stored met stored) gs) (apply_still was was_stored met stored g) (all_apply_still was was_stored met stored gs)

pub applies_still : (s : Setting) (was : List Met) (was_stored : GroupId → ℕ) (met : List Met) (stored : GroupId → ℕ) → Each IsStill (apply_notes s was was_stored met stored)
applies_still s was was_stored met stored = by (has_rows s.cluster s.me)
  where
    by : (t : Bool) → Each IsStill (cond t (flat_map (apply_note was was_stored met stored) (groups_of met)) [])
    by true = all_apply_still was was_stored met stored (groups_of met)
    by false = tt

-- ---- a decision

-- a node decides a position of a group, if it had not decided it
pub record DecidesMore (old new : List Met) (g : GroupId) (n : ℕ) : Type 0 where
  pub more : (k : ℕ) (e : Content) → decided old g k ≡ Some e → decided new g k ≡ Some e
  pub top : (k : ℕ) → k ≤ top_of new g → (k ≤ top_of old g) ⊎ (k ≤ n)
  pub up : is_up new ≡ is_up old

pub decides_then : (old mid new : List Met) (g : GroupId) (n : ℕ) → DecidesMore old mid g n → SameLogs mid new → DecidesMore old new g n
decides_then old mid new g n a b = record {
  more = λ k e d. b.decided g k ∙ a.more k e d;
  top = λ k le. a.top k (subst (λ t. k ≤ t) (b.top g) le);
  up = b.up ∙ a.up;
}

pub same_decides : (old new : List Met) (g : GroupId) (n : ℕ) → SameLogs old new → DecidesMore old new g n
same_decides old new g n s = record { more = λ k e d. s.decided g k ∙ d; top = λ k le. inl (subst (λ t. k ≤ t) (s.top g) le); up = s.up }

either_most : (a b k : ℕ) → k ≤ max a b → (k ≤ b) ⊎ (k ≤ a)
either_most a b k le = by (nat_lt b k) refl
  where
    above : b < k → k ≤ max a b → k ≤ a
    above less most = omega (arith, less, most)

    is_less : nat_lt b k ≡ true → b < k
    is_less h = grind (arith, nat_tests)

    is_most : nat_lt b k ≡ false → k ≤ b
    is_most h = grind (arith, nat_tests)

    by : (t : Bool) → nat_lt b k ≡ t → (k ≤ b) ⊎ (k ≤ a)
    by true e = inr (above (is_less e) le)
    by false e = inl (is_most e)

decides_one : (met : List Met) (g : GroupId) (n : ℕ) (entry : Content) → DecidesMore met (Decides g n entry ∷ met) g n
decides_one met g n entry = record {
  more = λ k e d. first (same_group g g && n == k) k e d;
  top = λ k le. top (same_group g g) k le;
  up = refl;
}
  where
    first : (t : Bool) (k : ℕ) (e : Content) → decided met g k ≡ Some e → cond t (first_of (decided met g k) entry) (decided met g k) ≡ Some e
    first true k e d = ap (λ o. first_of o entry) d
    first false k e d = d

    top : (t : Bool) (k : ℕ) → k ≤ cond t (max n (top_of met g)) (top_of met g) → (k ≤ top_of met g) ⊎ (k ≤ n)
    top true k le = either_most n (top_of met g) k le
    top false k le = inl le

abbrev pub decision : GroupId → ℕ → Content → Decision
decision g n entry = record { group = g; position = n; entry = entry }

pub decision_more : (was met : List Met) (g : GroupId) (n : ℕ) (entry : Content) → SameLogs was met → DecidesMore was (onto (decision_note (if_new was (Some (decision g n entry)))) met) g n
decision_more was met g n entry s = by (is_none (decided was g n))
  where
    by : (t : Bool) → DecidesMore was (onto (decision_note (cond t (Some (decision g n entry)) None)) met) g n
    by true = record {
      more = λ k e d. (decides_one met g n entry).more k e (s.decided g k ∙ d);
      top = λ k le. elim ((decides_one met g n entry).top k le) [ inl low ↦ inl (subst (λ t. k ≤ t) (s.top g) low) | inr low ↦ inr low ];
      up = s.up;
    }
    by false = same_decides was met g n s

-- what is decided is no higher than the top
pub below_top : (met : List Met) (g : GroupId) (n : ℕ) (e : Content) → decided met g n ≡ Some e → n ≤ top_of met g
below_top [] g n e h = cc
below_top (Decides other m entry ∷ before) g n e h = by (same_group other g) (m == n) refl h (below_top before g n e)
  where
    first : (t : Bool) → (m == n) ≡ t → cond t (first_of (decided before g n) entry) (decided before g n) ≡ Some e → (decided before g n ≡ Some e → n ≤ top_of before g) → n ≤ max m (top_of before g)
    first true same k below = let is = number_is m n same in omega (arith, is)
    first false same k below = let le = below k in omega (arith, le)

    by : (s t : Bool) → (m == n) ≡ t → cond (s && t) (first_of (decided before g n) entry) (decided before g n) ≡ Some e → (decided before g n ≡ Some e → n ≤ top_of before g)
        → n ≤ cond s (max m (top_of before g)) (top_of before g)
    by true t same k below = first t same k below
    by false t same k below = below k
below_top (Sends m ∷ before) g n e h = let le = below_top before g n e h in at_most (accepted_at g m.body) le
  where
    at_most : (a : ℕ) → n ≤ top_of before g → n ≤ max a (top_of before g)
    at_most a le = omega (arith, le)
below_top (Unsends m ∷ before) g n e h = let le = below_top before g n e h in at_most (accepted_at g m.body) le
  where
    at_most : (a : ℕ) → n ≤ top_of before g → n ≤ max a (top_of before g)
    at_most a le = omega (arith, le)
below_top (_ ∷ before) g n e h = below_top before g n e h

-- a position that a node decides is decided then
pub record HasEntry (met : List Met) (g : GroupId) (n : ℕ) : Type 0 where
  pub entry : Content
  pub is : decided met g n ≡ Some entry

pub decision_has : (was met : List Met) (g : GroupId) (n : ℕ) (entry : Content) → SameLogs was met → HasEntry (onto (decision_note (if_new was (Some (decision g n entry)))) met) g n
decision_has was met g n entry s = by (is_none (decided was g n)) refl
  where
    there : (o : Option Content) → is_none o ≡ false → (e : Content) × (o ≡ Some e)
    there None h = cc
    there (Some e) h = (e, refl)

    first : (o : Option Content) → (e : Content) × (first_of o entry ≡ Some e)
    first None = (entry, refl)
    first (Some e) = (e, refl)

    own : (same_group g g && n == n) ≡ true
    own = ap (λ t. t && n == n) (same_group_self g) ∙ number_self n

    by : (t : Bool) → is_none (decided was g n) ≡ t → HasEntry (onto (decision_note (cond t (Some (decision g n entry)) None)) met) g n
    by true e = let r = first (decided met g n) in record { entry = r.0; is = ap (λ t. cond t (first_of (decided met g n) entry) (decided met g n)) own ∙ r.1 }
    by false e = let r = there (decided was g n) e in record { entry = r.0; is = s.decided g n ∙ r.1 }
