-- The decided prefix: as far as the journal climbs, and entry by entry.
use Rattle.std.proofs.Common.{◌≡◌, ℕ, zero, suc, ◌+◌, ◌-◌, ◌==◌, ◌≤◌, ◌<◌, ◌&&◌, ◌||◌, ◌⊎◌, inl, inr, Bool, true, false, cond, max, nat_le, List, [], ◌∷◌, length, slice_get, Option, Some, None, refl, sym, ap, ◌∙◌, arith}
use Rattle.std.specs.Prelude.{is_some}
use Rattle.std.proofs.lemmas.Bool.Decides.{nat_tests}
use Rattle.mega_base.specs.declared.names.GroupId.{GroupId}
use Rattle.mega_entry.specs.declared.content.Content.{Content}
use Rattle.mega_wal.specs.Same.{same_group}
use Rattle.mega_base.specs.Climbing.{climb}
use Rattle.mega_wal.specs.History.{decided_of, newest_of as kept_newest, prefix_of as kept_prefix}
use Rattle.mega_base.proofs.Climbs.{climb_same, climb_up}
use Rattle.mega_rules.specs.Met.{Met, Decides}
use Rattle.mega_rules.specs.Logs.{decided, decided_from, first_of, log_of, newest_of, prefix_of, then_more}
use Rattle.mega_voter.specs.Journal.{journal_of}
use Rattle.mega_voter.proofs.Folds.{decided_is, newest_is}

-- ---- how far a number climbs
-- no further than so many steps lead
climb_enough : (f : ℕ → Bool) (few many from : ℕ) → few ≤ many → climb f many from ≤ from + few → climb f few from ≡ climb f many from
climb_enough f zero many from le most = let least = climb_up f many from in omega arith
climb_enough f (suc few) zero from le most = absurd (omega arith)
climb_enough f (suc few) (suc many) from le most = go (f (suc from)) most (climb_enough f few many (suc from) (omega arith))
  where
    go : (t : Bool) → cond t (climb f many (suc from)) from ≤ from + suc few → (climb f many (suc from) ≤ suc from + few → climb f few (suc from) ≡ climb f many (suc from))
        → cond t (climb f few (suc from)) from ≡ cond t (climb f many (suc from)) from
    go true most rest = rest (omega arith)
    go false most rest = refl

climb_passes : (f : ℕ → Bool) (steps from : ℕ) → (climb f steps from ≡ from) ⊎ (f (climb f steps from) ≡ true)
climb_passes f zero from = inl refl
climb_passes f (suc steps) from = go (f (suc from)) refl (climb_passes f steps (suc from))
  where
    go : (t : Bool) → f (suc from) ≡ t → (climb f steps (suc from) ≡ suc from) ⊎ (f (climb f steps (suc from)) ≡ true)
        → (cond t (climb f steps (suc from)) from ≡ from) ⊎ (f (cond t (climb f steps (suc from)) from) ≡ true)
    go true e (inl here) = inr (ap f here ∙ e)
    go true e (inr passes) = inr passes
    go false e h = inl refl

-- ---- how many numbers pass
abbrev count : (ℕ → Bool) → ℕ → ℕ
count f zero = 0
count f (suc n) = cond (f (suc n)) (suc (count f n)) (count f n)

climbed_all : (f : ℕ → Bool) (steps from : ℕ) → count f from ≡ from → count f (climb f steps from) ≡ climb f steps from
climbed_all f zero from all = all
climbed_all f (suc steps) from all = go (f (suc from)) refl (climbed_all f steps (suc from))
  where
    go : (t : Bool) → f (suc from) ≡ t → (count f (suc from) ≡ suc from → count f (climb f steps (suc from)) ≡ climb f steps (suc from))
        → count f (cond t (climb f steps (suc from)) from) ≡ cond t (climb f steps (suc from)) from
    go true e rest = rest (ap (λ t. cond t (suc (count f from)) (count f from)) e ∙ ap (λ n. suc n) all)
    go false e rest = all

count_same : (f g : ℕ → Bool) → ((n : ℕ) → f n ≡ g n) → (n : ℕ) → count f n ≡ count g n
count_same f g same zero = refl
count_same f g same (suc n) = ap (λ t. cond t (suc (count f n)) (count f n)) (same (suc n)) ∙ ap (λ k. cond (g (suc n)) (suc k) k) (count_same f g same n)

count_none : (n : ℕ) → count (λ k. false) n ≤ 0
count_none zero = omega arith
count_none (suc n) = count_none n

-- one number more that may pass
abbrev with_one : Bool → ℕ → (ℕ → Bool) → ℕ → Bool
with_one t at f n = (t && at == n) || f n

elsewhere : (t : Bool) (at n : ℕ) (b : Bool) → (at == n) ≡ false → ((t && at == n) || b) ≡ b
elsewhere true at n b e = ap (λ t. t || b) e
elsewhere false at n b e = refl

count_on : (a b : Bool) (x y k : ℕ) → a ≡ b → x ≤ y + k → cond a (suc x) x ≤ cond b (suc y) y + k
count_on true true x y k e le = omega arith
count_on false false x y k e le = le
count_on true false x y k e le = absurd (cc)
count_on false true x y k e le = absurd (cc)

count_here : (a b : Bool) (x y : ℕ) → x ≤ y + 0 → cond a (suc x) x ≤ cond b (suc y) y + 1
count_here true true x y le = omega arith
count_here true false x y le = omega arith
count_here false true x y le = omega arith
count_here false false x y le = omega arith

count_below : (t : Bool) (at : ℕ) (f : ℕ → Bool) (n : ℕ) → n < at → count (with_one t at f) n ≤ count f n + 0
count_below t at f zero lt = omega arith
count_below t at f (suc n) lt = count_on (with_one t at f (suc n)) (f (suc n)) (count (with_one t at f) n) (count f n) 0 (elsewhere t at (suc n) (f (suc n)) (grind (arith, nat_tests))) (count_below t at f n (omega arith))

count_one : (t : Bool) (at : ℕ) (f : ℕ → Bool) (n : ℕ) → count (with_one t at f) n ≤ count f n + 1
count_one t at f zero = omega arith
count_one t at f (suc n) = go (at == suc n) refl (count_one t at f n)
  where
    go : (b : Bool) → (at == suc n) ≡ b → count (with_one t at f) n ≤ count f n + 1 → count (with_one t at f) (suc n) ≤ count f (suc n) + 1
    go true e rest = let is : at ≡ suc n = grind (arith, nat_tests) in count_here (with_one t at f (suc n)) (f (suc n)) (count (with_one t at f) n) (count f n) (count_below t at f n (omega arith))
    go false e rest = count_on (with_one t at f (suc n)) (f (suc n)) (count (with_one t at f) n) (count f n) 1 (elsewhere t at (suc n) (f (suc n)) e) rest

-- ---- what is decided
abbrev is_decided : List Met → GroupId → ℕ → Bool
is_decided met group n = is_some (decided met group n)

some_first : (o : Option Content) (entry : Content) → is_some (first_of o entry) ≡ true
some_first None entry = refl
some_first (Some e) entry = refl

decided_with : (met : List Met) (other : GroupId) (position : ℕ) (entry : Content) (group : GroupId) (n : ℕ)
    → is_decided (Decides other position entry ∷ met) group n ≡ with_one (same_group other group) position (is_decided met group) n
decided_with met other position entry group n = go (same_group other group && position == n)
  where
    go : (t : Bool) → is_some (cond t (first_of (decided met group n) entry) (decided met group n)) ≡ (t || is_some (decided met group n))
    go true = some_first (decided met group n) entry
    go false = refl

-- no more positions than were met
few_decided : (met : List Met) (group : GroupId) (n : ℕ) → count (is_decided met group) n ≤ length met
few_decided [] group n = count_none n
few_decided (Decides other position entry ∷ met) group n =
    let is = count_same (is_decided (Decides other position entry ∷ met) group) (with_one (same_group other group) position (is_decided met group)) (decided_with met other position entry group) n in
    let one = count_one (same_group other group) position (is_decided met group) n in
    let rest = few_decided met group n in
    omega arith
few_decided (_ ∷ met) group n = let rest = few_decided met group n in omega arith

within_newest : (met : List Met) (group : GroupId) (n : ℕ) → is_decided met group n ≡ true → n ≤ newest_of met group
within_newest [] group n h = absurd (cc)
within_newest (Decides other position entry ∷ met) group n h = go (same_group other group) (position == n) refl h (within_newest met group n)
  where
    go : (a b : Bool) → (position == n) ≡ b → is_some (cond (a && b) (first_of (decided met group n) entry) (decided met group n)) ≡ true
        → (is_decided met group n ≡ true → n ≤ newest_of met group) → n ≤ cond a (max position (newest_of met group)) (newest_of met group)
    go true true e h rest = let is : position ≡ n = grind (arith, nat_tests) in omega arith
    go true false e h rest = let le = rest h in omega arith
    go false b e h rest = rest h
within_newest (_ ∷ met) group n h = within_newest met group n h

-- ---- the prefix is as long as the journal climbs
length_is : (met : List Met) (group : GroupId) (steps from : ℕ) → length (decided_from met group steps (suc from)) + from ≡ climb (is_decided met group) steps from
length_is met group zero from = omega arith
length_is met group (suc steps) from = go (decided met group (suc from)) (ap (λ n. length (decided_from met group steps n) + suc from) next ∙ length_is met group steps (suc from))
  where
    next : suc from + 1 ≡ suc (suc from)
    next = omega arith

    go : (o : Option Content) → length (decided_from met group steps (suc from + 1)) + suc from ≡ climb (is_decided met group) steps (suc from)
        → length (then_more o (decided_from met group steps (suc from + 1))) + from ≡ cond (is_some o) (climb (is_decided met group) steps (suc from)) from
    go None rest = omega arith
    go (Some entry) rest = omega arith

climbs_same : (met : List Met) (group : GroupId) → climb (is_decided met group) (newest_of met group) 0 ≡ climb (is_decided met group) (length met) 0
climbs_same met group = go (nat_le (newest_of met group) (length met)) refl
  where
    bounded : (p : ℕ) → (p ≡ 0) ⊎ (is_decided met group p ≡ true) → p ≤ 0 + newest_of met group
    bounded p (inl e) = omega arith
    bounded p (inr h) = let le = within_newest met group p h in omega arith

    counted : (p : ℕ) → count (is_decided met group) p ≡ p → p ≤ 0 + length met
    counted p all = let few = few_decided met group p in omega arith

    go : (t : Bool) → nat_le (newest_of met group) (length met) ≡ t → climb (is_decided met group) (newest_of met group) 0 ≡ climb (is_decided met group) (length met) 0
    go true e = climb_enough (is_decided met group) (newest_of met group) (length met) 0 (grind (arith, nat_tests))
        (bounded (climb (is_decided met group) (length met) 0) (climb_passes (is_decided met group) (length met) 0))
    go false e = sym (climb_enough (is_decided met group) (length met) (newest_of met group) 0 (let lt : length met < newest_of met group = grind (arith, nat_tests) in omega arith)
        (counted (climb (is_decided met group) (newest_of met group) 0) (climbed_all (is_decided met group) (newest_of met group) 0 refl)))

pub prefix_is : (met : List Met) (group : GroupId) → kept_prefix (journal_of met) group ≡ prefix_of met group
prefix_is met group =
    climb_same (λ n. is_some (decided_of (journal_of met) group n)) (is_decided met group) (λ n. ap is_some (decided_is met group n)) (kept_newest (journal_of met) group) 0
    ∙ (ap (λ n. climb (is_decided met group) n 0) (newest_is met group) ∙ (climbs_same met group ∙ sym last))
  where
    last : prefix_of met group ≡ climb (is_decided met group) (length met) 0
    last = let is = length_is met group (length met) 0 in omega arith

-- ---- an entry of the prefix is what is decided at its position
from_entry : (met : List Met) (group : GroupId) (most n k : ℕ) → k < length (decided_from met group most n) → slice_get (decided_from met group most n) k ≡ decided met group (n + k)
from_entry met group zero n k below = absurd (omega arith)
from_entry met group (suc most) n k below = go (decided met group n) refl k below (from_entry met group most (n + 1))
  where
    go : (o : Option Content) → decided met group n ≡ o → (k : ℕ) → k < length (then_more o (decided_from met group most (n + 1)))
        → ((k : ℕ) → k < length (decided_from met group most (n + 1)) → slice_get (decided_from met group most (n + 1)) k ≡ decided met group (n + 1 + k))
        → slice_get (then_more o (decided_from met group most (n + 1))) k ≡ decided met group (n + k)
    go None e k below later = absurd (omega arith)
    go (Some entry) e zero below later = sym (ap (λ m. decided met group m) (let z : n + 0 ≡ n = omega arith in z) ∙ e)
    go (Some entry) e (suc k) below later = later k (omega arith) ∙ ap (λ m. decided met group m) (let z : n + 1 + k ≡ n + suc k = omega arith in z)

pub entry_is : (met : List Met) (group : GroupId) (n : ℕ) → 0 < n → n ≤ prefix_of met group → slice_get (log_of met group) (n - 1) ≡ decided met group n
entry_is met group n above le = from_entry met group (length met) 1 (n - 1) (omega arith) ∙ ap (λ m. decided met group m) (let z : 1 + (n - 1) ≡ n = omega arith in z)
