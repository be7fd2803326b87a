-- Two majorities of the voters meet, where the one is a list in which each stands once.
use Rattle.std.proofs.Common.{◌≡◌, ◌⊎◌, inl, inr, ℕ, suc, ◌+◌, ◌*◌, ◌==◌, ◌||◌, ◌≤◌, ◌<◌, nat_lt, Bool, true, false, not, cond, List, [], ◌∷◌, ◌++◌, filter, length, refl, sym, ap, ◌∙◌, subst, arith}
use Rattle.std.proofs.lemmas.Bool.Decides.{nat_tests}
use Rattle.std.proofs.lemmas.Bool.{or_parts}
use Rattle.mega_leased_laws.specs.of_run_laws.of_tape_laws.of_promises.of_rules.of_read.of_propose.Members.{has, is_majority, others}
use Rattle.mega_calm_laws.proofs.Mail.{Among, apart_turned, number_is, number_self}
use Rattle.mega_calm_laws.proofs.Polls.{among_filter}

-- each stands in it once
abbrev pub IsDistinct : List ℕ → Type 0
IsDistinct [] = Unit {0}
IsDistinct (x ∷ xs) = (has x xs ≡ false) × IsDistinct xs

pub among_has : (x : ℕ) (xs : List ℕ) → Among x xs → has x xs ≡ true
among_has x [] i = absurd i
among_has x (y ∷ ys) (inl same) = ap (λ t. t || has x ys) (ap (λ w. w == x) same ∙ number_self x)
among_has x (y ∷ ys) (inr i) = by (y == x) (among_has x ys i)
  where
    by : (t : Bool) → has x ys ≡ true → (t || has x ys) ≡ true
    by true h = refl
    by false h = h

last_has : (x v : ℕ) (xs : List ℕ) → has x xs ≡ false → (v == x) ≡ false → has x (xs ++ v ∷ []) ≡ false
last_has x v [] h apart = ap (λ t. t || false) apart
last_has x v (y ∷ ys) h apart = let r = or_parts (y == x) (has x ys) h in ap (λ t. t || has x (ys ++ v ∷ [])) r.0 ∙ last_has x v ys r.1 apart

pub distinct_last : (v : ℕ) (xs : List ℕ) → IsDistinct xs → has v xs ≡ false → IsDistinct (xs ++ v ∷ [])
distinct_last v [] h none = (refl, tt)
distinct_last v (x ∷ xs) h none = let r = or_parts (x == v) (has v xs) none in (last_has x v xs h.0 (apart_turned x v r.0), distinct_last v xs h.1 r.1)

at_most : (test : ℕ → Bool) (xs : List ℕ) → length (filter test xs) ≤ length xs
at_most test [] = omega arith
at_most test (x ∷ xs) = by (test x) (at_most test xs)
  where
    by : (t : Bool) → length (filter test xs) ≤ length xs → length (cond t (x ∷ filter test xs) (filter test xs)) ≤ suc (length xs)
    by true le = omega (arith, le)
    by false le = omega (arith, le)

fewer : (x : ℕ) (ys : List ℕ) → Among x ys → length (others x ys) < length ys
fewer x [] i = absurd i
fewer x (y ∷ ys) i = by (y == x) refl i (fewer x ys) (at_most (λ other. not (other == x)) ys)
  where
    by : (t : Bool) → (y == x) ≡ t → Among x (y ∷ ys) → (Among x ys → length (others x ys) < length ys) → length (others x ys) ≤ length ys
        → length (cond (not t) (y ∷ others x ys) (others x ys)) < suc (length ys)
    by true e k again le = omega (arith, le)
    by false e (inl same) again le = absurd (let wrong = sym (ap (λ w. w == x) same ∙ number_self x) ∙ e in cc)
    by false e (inr k) again le = let less = again k in omega (arith, less)

-- those of a list in which each stands once are no more than those among which they all are
pub shorter : (xs ys : List ℕ) → IsDistinct xs → ((x : ℕ) → Among x xs → Among x ys) → length xs ≤ length ys
shorter [] ys h f = omega arith
shorter (x ∷ xs) ys h f =
    let rest = shorter xs (others x ys) h.1 (λ z i. among_filter (λ other. not (other == x)) z ys (apart z i (z == x) refl) (f z (inr i))) in
    let less = fewer x ys (f x (inl refl)) in
    omega (arith, rest, less)
  where
    apart : (z : ℕ) → Among z xs → (t : Bool) → (z == x) ≡ t → not t ≡ true
    apart z i false e = refl
    apart z i true e = absurd (let there = subst (λ w. has w xs ≡ true) (number_is z x e) (among_has z xs i) in let wrong = sym there ∙ h.0 in cc)

both_parts : (test : ℕ → Bool) (xs : List ℕ) → length (filter test xs) + length (filter (λ x. not (test x)) xs) ≡ length xs
both_parts test [] = refl
both_parts test (x ∷ xs) = by (test x) (both_parts test xs)
  where
    by : (t : Bool) → length (filter test xs) + length (filter (λ y. not (test y)) xs) ≡ length xs
        → length (cond t (x ∷ filter test xs) (filter test xs)) + length (cond (not t) (x ∷ filter (λ y. not (test y)) xs) (filter (λ y. not (test y)) xs)) ≡ suc (length xs)
    by true h = omega (arith, h)
    by false h = omega (arith, h)

find_one : (test : ℕ → Bool) (xs : List ℕ) → ((x : ℕ) × Among x xs × (test x ≡ true)) ⊎ ((x : ℕ) → Among x xs → test x ≡ false)
find_one test [] = inr (λ x i. absurd i)
find_one test (y ∷ ys) = by (test y) refl (find_one test ys)
  where
    none : test y ≡ false → ((x : ℕ) → Among x ys → test x ≡ false) → (x : ℕ) → Among x (y ∷ ys) → test x ≡ false
    none e rest x (inl same) = subst (λ w. test w ≡ false) same e
    none e rest x (inr i) = rest x i

    by : (t : Bool) → test y ≡ t → ((x : ℕ) × Among x ys × (test x ≡ true)) ⊎ ((x : ℕ) → Among x ys → test x ≡ false) → ((x : ℕ) × Among x (y ∷ ys) × (test x ≡ true)) ⊎ ((x : ℕ) → Among x (y ∷ ys) → test x ≡ false)
    by true e rest = inl (y, inl refl, e)
    by false e (inl r) = inl (r.0, inr r.1, r.2)
    by false e (inr rest) = inr (none e rest)

more_than : (a b : ℕ) → nat_lt a b ≡ true → a < b
more_than a b h = grind (arith, nat_tests)

pub majorities_meet : (voters heard : List ℕ) (test : ℕ → Bool) → IsDistinct heard → ((x : ℕ) → Among x heard → Among x voters) → is_majority (length voters) (length heard) ≡ true
    → is_majority (length voters) (length (filter test voters)) ≡ true → (x : ℕ) × Among x heard × (test x ≡ true)
majorities_meet voters heard test distinct members most known = elim (find_one test heard) [
  | inl r ↦ r
  | inr none ↦ absurd (
      let few = shorter heard (filter (λ x. not (test x)) voters) distinct (λ x i. among_filter (λ y. not (test y)) x voters (ap not (none x i)) (members x i)) in
      let parts = both_parts test voters in
      let one = more_than (length voters) (2 * length heard) most in
      let other = more_than (length voters) (2 * length (filter test voters)) known in
      never (length (filter test voters)) (length (filter (λ x. not (test x)) voters)) (length heard) (length voters) few parts one other)
]
  where
    never : (a b h m : ℕ) → h ≤ b → a + b ≡ m → m < 2 * h → m < 2 * a → ⊥
    never a b h m few parts one other = omega (arith, few, parts, one, other)

-- a majority of some voters is not empty
pub some_pass : (voters : List ℕ) (test : ℕ → Bool) → is_majority (length voters) (length (filter test voters)) ≡ true → (x : ℕ) × Among x voters × (test x ≡ true)
some_pass voters test known = elim (find_one test voters) [
  | inl r ↦ r
  | inr none ↦ absurd (let empty = nothing voters none in let more = more_than (length voters) (2 * length (filter test voters)) known in never (length (filter test voters)) (length voters) empty more)
]
  where
    nothing : (xs : List ℕ) → ((x : ℕ) → Among x xs → test x ≡ false) → length (filter test xs) ≡ 0
    nothing [] f = refl
    nothing (x ∷ xs) f = ap (λ t. length (cond t (x ∷ filter test xs) (filter test xs))) (f x (inl refl)) ∙ nothing xs (λ y i. f y (inr i))

    never : (a m : ℕ) → a ≡ 0 → m < 2 * a → ⊥
    never a m empty more = omega (arith, empty, more)
