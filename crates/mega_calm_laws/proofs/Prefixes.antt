-- The position behind the decided prefix is not decided: no more positions are decided than a node met things.
use Rattle.std.proofs.Common.{◌≡◌, ◌⊎◌, inl, inr, ℕ, zero, suc, ◌+◌, ◌<◌, ◌≤◌, ◌==◌, ◌&&◌, Bool, true, false, ◌||◌, cond, List, [], ◌∷◌, filter, length, Option, Some, None, refl, sym, ap, ◌∙◌, subst, arith}
use Rattle.std.specs.List.{range_with_len}
use Rattle.std.proofs.lemmas.Bool.Decides.{nat_tests}
use Rattle.mega_base.specs.declared.names.GroupId.{GroupId}
use Rattle.mega_entry.specs.declared.content.Content.{Content}
use Rattle.mega_wal.specs.Same.{same_group}
use Rattle.mega_leased_laws.specs.of_run_laws.of_tape_laws.of_promises.of_rules.of_read.of_propose.Members.{has}
use Rattle.mega_leased_laws.specs.of_run_laws.of_tape_laws.of_promises.of_rules.Met.{Met, Decides}
use Rattle.mega_leased_laws.specs.of_run_laws.of_tape_laws.of_promises.of_rules.Logs.{decided, decided_from, first_of, prefix_of, then_more}
use Rattle.mega_leased_laws.proofs.of_run_laws.of_tape_laws.Totals.{all_pass, none_pass, one_more, total}
use Rattle.mega_calm_laws.proofs.Mail.{number_is}

-- a list has at least as many members as there are numbers that it has
has_more : (x : ℕ) (xs : List ℕ) (k : ℕ) → ((x == k) || has k xs) ≡ true → (has k xs ≡ true) ⊎ (x ≡ k)
has_more x xs k h = by (x == k) refl h
  where
    by : (t : Bool) → (x == k) ≡ t → (t || has k xs) ≡ true → (has k xs ≡ true) ⊎ (x ≡ k)
    by true e k' = inr (number_is x k e)
    by false e k' = inl k'

pub counted_most : (xs : List ℕ) (from most : ℕ) → total (λ k. has k xs) from most ≤ length xs
counted_most [] from most = let none = none_pass (λ k. has k []) from most (λ k. refl) in omega (arith, none)
counted_most (x ∷ xs) from most =
    let one = one_more (λ k. has k xs) (λ k. has k (x ∷ xs)) x (has_more x xs) from most in
    let rest = counted_most xs from most in
    omega (arith, one, rest)

-- those of a range that pass one test are no more than those that pass another which it implies
pub counts_all : (one other : ℕ → Bool) → ((k : ℕ) → one k ≡ true → other k ≡ true) → (from most : ℕ) → length (filter one (range_with_len from most)) ≤ total other from most
unfolding total
counts_all one other f from zero = omega arith
counts_all one other f from (suc most) = go (one from) refl (other from) refl (next (counts_all one other f (from + 1) most))
  where
    next : length (filter one (range_with_len (from + 1) most)) ≤ total other (from + 1) most → length (filter one (range_with_len (from + 1) most)) ≤ total other (suc from) most
    next h = subst (λ b. length (filter one (range_with_len (from + 1) most)) ≤ total other b most) (let same : from + 1 ≡ suc from = omega arith in same) h

    go : (s : Bool) → one from ≡ s → (t : Bool) → other from ≡ t → length (filter one (range_with_len (from + 1) most)) ≤ total other (suc from) most
        → length (cond s (from ∷ filter one (range_with_len (from + 1) most)) (filter one (range_with_len (from + 1) most))) ≤ cond t 1 0 + total other (suc from) most
    go true e true k rest = omega (arith, rest)
    go true e false k rest = absurd (let clash = sym k ∙ f from e in cc)
    go false e true k rest = omega (arith, rest)
    go false e false k rest = omega (arith, rest)

-- ---- how many positions are decided

abbrev is_there : Option Content → Bool
is_there None = false
is_there (Some e) = true

abbrev is_decided : List Met → GroupId → ℕ → Bool
is_decided met group k = is_there (decided met group k)

record OneMore (one : Met) (before : List Met) (group : GroupId) : Type 0 where
  position : ℕ
  only : (k : ℕ) → is_decided (one ∷ before) group k ≡ true → (is_decided before group k ≡ true) ⊎ (position ≡ k)

decides_one : (one : Met) (before : List Met) (group : GroupId) → OneMore one before group
decides_one (Decides g m x) before group = record { position = m; only = λ k h. by k (same_group g group) (m == k) (number_is m k) h }
  where
    by : (k : ℕ) (s t : Bool) → (t ≡ true → m ≡ k) → is_there (cond (s && t) (first_of (decided before group k) x) (decided before group k)) ≡ true → (is_there (decided before group k) ≡ true) ⊎ (m ≡ k)
    by k true true same h = inr (same refl)
    by k true false same h = inl h
    by k false t same h = inl h
decides_one _ before group = record { position = 0; only = λ k h. inl h }

most_decided : (met : List Met) (group : GroupId) (from most : ℕ) → total (is_decided met group) from most ≤ length met
most_decided [] group from most = go
  where
    none : (k : ℕ) → is_decided [] group k ≡ false
    none k = refl

    go : total (is_decided [] group) from most ≤ 0
    go = let h = none_pass (is_decided [] group) from most none in omega arith
most_decided (one ∷ before) group from most =
    let more = decides_one one before group in
    let h = one_more (is_decided before group) (is_decided (one ∷ before) group) more.position more.only from most in
    let rest = most_decided before group from most in
    omega arith

-- ---- the decided prefix

-- each position of the prefix is decided
from_decided : (met : List Met) (g : GroupId) (m n k : ℕ) → k < length (decided_from met g m n) → is_decided met g (n + k) ≡ true
from_decided met g zero n k h = absurd (omega arith)
from_decided met g (suc m) n k h = go (decided met g n) refl h k (λ j below. from_decided met g m (n + 1) j below) h
  where
    later : (j : ℕ) → is_decided met g ((n + 1) + j) ≡ true → is_decided met g (n + suc j) ≡ true
    later j d = subst (λ i. is_decided met g i ≡ true) (omega arith) d

    go : (o : Option Content) → decided met g n ≡ o → k < length (then_more (decided met g n) (decided_from met g m (n + 1))) → (i : ℕ)
        → ((j : ℕ) → j < length (decided_from met g m (n + 1)) → is_decided met g ((n + 1) + j) ≡ true)
        → i < length (then_more (decided met g n) (decided_from met g m (n + 1))) → is_decided met g (n + i) ≡ true
    go None e below i again less = absurd (let none = subst (λ o. i < length (then_more o (decided_from met g m (n + 1)))) e less in omega (arith, none))
    go (Some entry) e below zero again less = subst (λ i. is_decided met g i ≡ true) (omega arith) (ap is_there e)
    go (Some entry) e below (suc i) again less = later i (again i (let some = subst (λ o. suc i < length (then_more o (decided_from met g m (n + 1)))) e less in omega (arith, some)))

-- a list that ends early ends at a position that is not decided
stops : (met : List Met) (g : GroupId) (most n : ℕ) → length (decided_from met g most n) < most → is_decided met g (n + length (decided_from met g most n)) ≡ false
stops met g zero n less = absurd (omega (arith, less))
stops met g (suc most) n less = go (decided met g n) refl (stops met g most (n + 1)) less
  where
    go : (o : Option Content) → decided met g n ≡ o → (length (decided_from met g most (n + 1)) < most → is_decided met g ((n + 1) + length (decided_from met g most (n + 1))) ≡ false)
        → length (then_more o (decided_from met g most (n + 1))) < suc most → is_decided met g (n + length (then_more o (decided_from met g most (n + 1)))) ≡ false
    go None e again below = subst (λ i. is_decided met g i ≡ false) (omega arith) (ap is_there e)
    go (Some entry) e again below = subst (λ i. is_decided met g i ≡ false) (omega arith) (again (omega (arith, below)))

none_there : (o : Option Content) → is_there o ≡ false → o ≡ None
none_there None h = refl
none_there (Some e) h = cc

below : (k n : ℕ) → k < suc n → (k == n) ≡ false → k < n
below k n less apart = grind (arith, nat_tests)

pub behind_prefix : (met : List Met) (g : GroupId) → decided met g (prefix_of met g + 1) ≡ None
behind_prefix met g = none_there (decided met g (prefix_of met g + 1)) (by (is_decided met g (prefix_of met g + 1)) refl)
  where
    at : (k : ℕ) → is_decided met g (prefix_of met g + 1) ≡ true → k < suc (prefix_of met g) → (t : Bool) → (k == prefix_of met g) ≡ t → is_decided met g (1 + k) ≡ true
    at k last less true e = subst (λ i. is_decided met g i ≡ true) (let is = number_is k (prefix_of met g) e in let same : prefix_of met g + 1 ≡ 1 + k = omega (arith, is) in same) last
    at k last less false e = from_decided met g (length met) 1 k (below k (prefix_of met g) less e)

    by : (t : Bool) → is_decided met g (prefix_of met g + 1) ≡ t → is_decided met g (prefix_of met g + 1) ≡ false
    by false e = e
    by true e =
        let all = all_pass (is_decided met g) 1 (suc (prefix_of met g)) (λ k less. at k e less (k == prefix_of met g) refl) in
        let bound = most_decided met g 1 (suc (prefix_of met g)) in
        let shut = stops met g (length met) 1 (omega (arith, all, bound)) in
        subst (λ i. is_decided met g i ≡ false) (let same : 1 + prefix_of met g ≡ prefix_of met g + 1 = omega arith in same) shut
