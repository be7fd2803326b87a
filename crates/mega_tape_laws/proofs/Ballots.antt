-- The order of ballots, as a test.
use Rattle.std.proofs.Common.{◌≡◌, ◌⊎◌, inl, inr, ℕ, ◌==◌, Bool, true, false, cond, refl, sym, subst, ◌∙◌, arith}
use Rattle.std.proofs.lemmas.Bool.Decides.{nat_tests}
use Rattle.std.proofs.lemmas.Bool.{false_from_ne_true}
use Rattle.mega_ballot.specs.declared.ballot.Ballot.{Ballot}
use Rattle.mega_ballot.specs.Order.{zero_ballot}
use Rattle.mega_ballot.proofs.Ordered.{irreflexive, transitive, total, zero_least}
use Rattle.mega_wal.specs.Acceptor.{greater_ballot, is_ballot_below}
use Rattle.mega_wal.proofs.Orders.{is_below_iff}

pub number_is : (a b : ℕ) → (a == b) ≡ true → a ≡ b
number_is a b h = grind (arith, nat_tests)

pub number_self : (a : ℕ) → (a == a) ≡ true
number_self a = grind (arith, nat_tests)

pub clash : {X : Type 0} (t : Bool) → t ≡ true → t ≡ false → X
clash t h k = absurd (let both = sym h ∙ k in cc)

-- a ballot is below another, or at most it
abbrev pub Below : Ballot → Ballot → Type 0
Below a b = is_ballot_below a b ≡ true

abbrev pub AtMost : Ballot → Ballot → Type 0
AtMost a b = is_ballot_below b a ≡ false

pub below_same : (a : Ballot) → Below a a → ⊥
below_same a h = irreflexive a ((is_below_iff a a).0 h)

pub below_below : (a b c : Ballot) → Below a b → Below b c → Below a c
below_below a b c h k = (is_below_iff a c).1 (transitive a b c ((is_below_iff a b).0 h) ((is_below_iff b c).0 k))

pub order : (a b : Ballot) → Below a b ⊎ (a ≡ b) ⊎ Below b a
order a b = elim (total a b) [
  | inl h ↦ inl ((is_below_iff a b).1 h)
  | inr h ↦ elim h [ inl e ↦ inr (inl e) | inr k ↦ inr (inr ((is_below_iff b a).1 k)) ]
]

pub below_not : (a b : Ballot) → Below a b → AtMost a b
below_not a b h = false_from_ne_true (is_ballot_below b a) (λ k. below_same a (below_below a b a h k))

pub at_most_self : (a : Ballot) → AtMost a a
at_most_self a = false_from_ne_true (is_ballot_below a a) (below_same a)

pub at_most_cases : (a b : Ballot) → AtMost a b → (a ≡ b) ⊎ Below a b
at_most_cases a b h = elim (order a b) [
  | inl k ↦ inr k
  | inr k ↦ elim k [ inl e ↦ inl e | inr l ↦ absurd (clash (is_ballot_below b a) l h) ]
]

pub below_at_most : (a b c : Ballot) → Below a b → AtMost b c → Below a c
below_at_most a b c h k = elim (at_most_cases b c k) [ inl e ↦ subst (Below a) e h | inr l ↦ below_below a b c h l ]

pub at_most_below : (a b c : Ballot) → AtMost a b → Below b c → Below a c
at_most_below a b c h k = elim (at_most_cases a b h) [ inl e ↦ subst (λ x. Below x c) (sym e) k | inr l ↦ below_below a b c l k ]

pub at_most_at_most : (a b c : Ballot) → AtMost a b → AtMost b c → AtMost a c
at_most_at_most a b c h k = false_from_ne_true (is_ballot_below c a) (λ l. clash (is_ballot_below c b) (below_at_most c a b l h) k)

pub not_below_zero : (b : Ballot) → Below b zero_ballot → ⊥
not_below_zero b h = elim (zero_least b) [
  | inl e ↦ below_same zero_ballot (subst (λ x. Below x zero_ballot) e h)
  | inr k ↦ below_same zero_ballot (below_below zero_ballot b zero_ballot ((is_below_iff zero_ballot b).1 k) h)
]

pub at_most_zero : (b : Ballot) → AtMost b zero_ballot → b ≡ zero_ballot
at_most_zero b h = elim (zero_least b) [
  | inl e ↦ e
  | inr k ↦ absurd (clash (is_ballot_below zero_ballot b) ((is_below_iff zero_ballot b).1 k) h)
]

-- the greater of two is the second, where that is not below
pub greater_is : (a b : Ballot) → AtMost a b → greater_ballot a b ≡ b
greater_is a b h = go (is_ballot_below a b) refl
  where
    go : (t : Bool) → is_ballot_below a b ≡ t → cond t b a ≡ b
    go true e = refl
    go false e = elim (at_most_cases a b h) [ inl same ↦ same | inr k ↦ absurd (clash (is_ballot_below a b) k e) ]
