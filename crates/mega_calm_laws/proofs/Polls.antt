-- What stands while an operation reads alone: which messages wait, what they tell, and what the read waits for.
use Rattle.std.proofs.Common.{◌≡◌, ◌⊎◌, inl, inr, ℕ, zero, suc, ◌+◌, ◌*◌, ◌==◌, ◌&&◌, ◌||◌, ◌≤◌, ◌<◌, nat_le, nat_lt, Bool, true, false, not, cond, List, [], ◌∷◌, filter, length, refl, sym, ap, ◌∙◌, subst, arith}
use Rattle.std.specs.List.{list_all, list_any, range_with_len}
use Rattle.std.proofs.lemmas.Bool.Decides.{nat_tests}
use Rattle.std.proofs.lemmas.Bool.{and_parts, not_from_false, not-true, and_from}
use Rattle.mega_cluster.specs.declared.cluster.Cluster.{Cluster}
use Rattle.mega_leased_laws.specs.of_run_laws.of_tape_laws.of_promises.of_rules.of_read.of_propose.Members.{has, is_majority, others}
use Rattle.mega_leased_laws.specs.of_run_laws.of_tape_laws.of_promises.of_rules.Members.{is_node, is_voter, kind_of, nodes, voters, votes}
use Rattle.mega_calm_laws.proofs.Mail.{Among, number_is, number_self}
use Rattle.mega_calm_laws.proofs.Prefixes.{counted_most, counts_all}

-- ---- members

pub among_filter : (test : ℕ → Bool) (x : ℕ) (xs : List ℕ) → test x ≡ true → Among x xs → Among x (filter test xs)
among_filter test x [] h i = absurd i
among_filter test x (y ∷ ys) h i = go (test y) refl i (among_filter test x ys h)
  where
    go : (t : Bool) → test y ≡ t → Among x (y ∷ ys) → (Among x ys → Among x (filter test ys)) → Among x (cond t (y ∷ filter test ys) (filter test ys))
    go true e (inl same) again = inl same
    go true e (inr later) again = inr (again later)
    go false e (inl same) again = absurd (let clash = sym e ∙ (ap test same ∙ h) in cc)
    go false e (inr later) again = again later

pub from_filter : (test : ℕ → Bool) (x : ℕ) (xs : List ℕ) → Among x (filter test xs) → (test x ≡ true) × Among x xs
from_filter test x [] i = absurd i
from_filter test x (y ∷ ys) i = go (test y) refl i (from_filter test x ys)
  where
    go : (t : Bool) → test y ≡ t → Among x (cond t (y ∷ filter test ys) (filter test ys)) → (Among x (filter test ys) → (test x ≡ true) × Among x ys) → (test x ≡ true) × Among x (y ∷ ys)
    go true e (inl same) again = (subst (λ z. test z ≡ true) same e, inl same)
    go true e (inr later) again = let r = again later in (r.0, inr r.1)
    go false e later again = let r = again later in (r.0, inr r.1)

among_range : (x base n : ℕ) → base ≤ x → x < base + n → Among x (range_with_len base n)
among_range x base zero low high = absurd (omega (arith, low, high))
among_range x base (suc n) low high = by (base == x) refl (among_range x (base + 1) n)
  where
    next : base ≤ x → (base == x) ≡ false → base + 1 ≤ x
    next le apart = grind (arith, nat_tests)

    by : (t : Bool) → (base == x) ≡ t → (base + 1 ≤ x → x < base + 1 + n → Among x (range_with_len (base + 1) n)) → (base ≡ x) ⊎ Among x (range_with_len (base + 1) n)
    by true e again = inl (number_is base x e)
    by false e again = inr (again (next low e) (omega (arith, high)))

any_among : (test : ℕ → Bool) (x : ℕ) (xs : List ℕ) → Among x xs → test x ≡ true → list_any test xs ≡ true
any_among test x [] i h = absurd i
any_among test x (y ∷ ys) (inl same) h = ap (λ t. t || list_any test ys) (ap test same ∙ h)
any_among test x (y ∷ ys) (inr later) h = by (test y) (any_among test x ys later h)
  where
    by : (t : Bool) → list_any test ys ≡ true → (t || list_any test ys) ≡ true
    by true e = refl
    by false e = e

pub all_among : (test : ℕ → Bool) (x : ℕ) (xs : List ℕ) → list_all test xs ≡ true → Among x xs → test x ≡ true
all_among test x [] h i = absurd i
all_among test x (y ∷ ys) h i = go (test y) refl h i (all_among test x ys)
  where
    go : (t : Bool) → test y ≡ t → (t && list_all test ys) ≡ true → Among x (y ∷ ys) → (list_all test ys ≡ true → Among x ys → test x ≡ true) → test x ≡ true
    go true e k (inl same) again = subst (λ z. test z ≡ true) same e
    go true e k (inr later) again = again k later
    go false e k later again = cc

pub voter_is_node : (c : Cluster) (v : ℕ) → is_voter c v ≡ true → is_node c v ≡ true
voter_is_node c v h = (and_parts (is_node c v) (votes (kind_of c v)) h).0

pub among_voters : (c : Cluster) (v : ℕ) → is_voter c v ≡ true → Among v (voters c)
among_voters c v h = among_filter (is_voter c) v (nodes c) h (among_range v 1 (length c.nodes) (low (both.0)) (high both.1))
  where
    both : (nat_le 1 v ≡ true) × (nat_le v (length c.nodes) ≡ true)
    both = and_parts (nat_le 1 v) (nat_le v (length c.nodes)) (voter_is_node c v h)

    low : nat_le 1 v ≡ true → 1 ≤ v
    low e = grind (arith, nat_tests)

    high : nat_le v (length c.nodes) ≡ true → v < 1 + length c.nodes
    high e = grind (arith, nat_tests)

pub voter_of : (c : Cluster) (v : ℕ) → Among v (voters c) → is_voter c v ≡ true
voter_of c v i = (from_filter (is_voter c) v (nodes c) i).0

pub has_voter : (c : Cluster) (v : ℕ) → is_voter c v ≡ true → has v (voters c) ≡ true
has_voter c v h = any_among (λ other. other == v) v (voters c) (among_voters c v h) (number_self v)

pub among_others : (c : Cluster) (me v : ℕ) → is_voter c v ≡ true → (v == me) ≡ false → Among v (others me (voters c))
among_others c me v h apart = among_filter (λ other. not (other == me)) v (voters c) (not_from_false (v == me) apart) (among_voters c v h)

pub other_voter : (c : Cluster) (me v : ℕ) → Among v (others me (voters c)) → (is_voter c v ≡ true) × ((v == me) ≡ false)
other_voter c me v i = let r = from_filter (λ other. not (other == me)) v (voters c) i in (voter_of c v r.1, not-true (v == me) r.0)

-- where each voter was heard, a majority was
pub all_heard : (c : Cluster) (heard : List ℕ) (me : ℕ) → is_voter c me ≡ true → ((v : ℕ) → is_voter c v ≡ true → has v heard ≡ true) → is_majority (length (voters c)) (length heard) ≡ true
all_heard c heard me member h = majority (length (voters c)) (length heard) (some (voters c) (among_voters c me member)) (enough)
  where
    some : (vs : List ℕ) → Among me vs → 0 < length vs
    some [] i = absurd i
    some (v ∷ vs) i = omega arith

    fits : (v : ℕ) → is_voter c v ≡ true → has v heard ≡ true
    fits = h

    enough : length (voters c) ≤ length heard
    enough =
        let few = counts_all (is_voter c) (λ v. has v heard) fits 1 (length c.nodes) in
        let most = counted_most heard 1 (length c.nodes) in
        omega (arith, few, most)

    majority : (members count : ℕ) → 0 < members → members ≤ count → nat_lt members (2 * count) ≡ true
    majority members count above le = grind (arith, nat_tests)

-- ---- nodes

from_range : (x base n : ℕ) → Among x (range_with_len base n) → (base ≤ x) × (x < base + n)
from_range x base zero i = absurd i
from_range x base (suc n) (inl same) = (omega (arith, same), omega (arith, same))
from_range x base (suc n) (inr i) = let r = from_range x (base + 1) n i in let low = r.0 in let high = r.1 in (omega (arith, low), omega (arith, high))

pub node_among : (c : Cluster) (x : ℕ) → Among x (nodes c) → is_node c x ≡ true
node_among c x i = and_from (nat_le 1 x) (nat_le x (length c.nodes)) (low range.0) (high range.1)
  where
    range : (1 ≤ x) × (x < 1 + length c.nodes)
    range = from_range x 1 (length c.nodes) i

    low : 1 ≤ x → nat_le 1 x ≡ true
    low le = grind (arith, nat_tests)

    high : x < 1 + length c.nodes → nat_le x (length c.nodes) ≡ true
    high less = grind (arith, nat_tests)
