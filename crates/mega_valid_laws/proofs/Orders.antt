-- The order in which items stand, and of epochs.
use Rattle.std.proofs.Common.{◌≡◌, ◌⊎◌, inl, inr, ℕ, ◌+◌, ◌*◌, ◌<◌, ◌≤◌, ◌==◌, ◌&&◌, nat_lt, Bool, true, false, List, [], ◌∷◌, ◌++◌, length, refl, sym, ap, ◌∙◌, arith}
use Rattle.std.proofs.lemmas.Bool.Decides.{nat_tests}
use Rattle.std.proofs.lemmas.List.FromFn.{length-range_with_len}
use Rattle.std.proofs.lemmas.Bool.{or_cases, or_left, or_right, and_from, false_from_ne_true, and_parts}
use Rattle.mega_base.specs.declared.names.Epoch.{Epoch}
use Rattle.mega_cluster.specs.declared.cluster.Cluster.{Cluster}
use Rattle.mega_wal.specs.History.{is_epoch_below}
use Rattle.mega_settled_laws.specs.of_tape_laws.of_promises.of_transcript.declared.item.Item.{Item}
use Rattle.mega_settled_laws.specs.of_tape_laws.of_promises.Promises.{Stands, StoodBefore}
use Rattle.mega_settled_laws.specs.of_tape_laws.of_promises.of_rules.Members.{cells}
use Rattle.mega_settled_laws.specs.of_tape_laws.Places.{count}
use Rattle.mega_settled_laws.specs.of_tape_laws.Settled.{IsCellMajority}
use Rattle.mega_settled_laws.proofs.of_tape_laws.Ballots.{clash, number_is}
use Rattle.mega_settled_laws.proofs.of_tape_laws.Majorities.{Shared, overlap}
use Rattle.mega_settled_laws.specs.Covering.{Earlier}

-- ---- epochs

abbrev pub Below : Epoch → Epoch → Type 0
Below a b = (a.start < b.start) ⊎ ((a.start ≡ b.start) × (a.count < b.count))

is_less : (a b : ℕ) → nat_lt a b ≡ true → a < b
is_less a b h = grind (arith, nat_tests)

less_is : (a b : ℕ) → a < b → nat_lt a b ≡ true
less_is a b h = grind (arith, nat_tests)

same_is : (a b : ℕ) → a ≡ b → (a == b) ≡ true
same_is a b h = grind (arith, nat_tests)

pub below_of : (a b : Epoch) → is_epoch_below a b ≡ true → Below a b
below_of a b h = elim (or_cases (nat_lt a.start b.start) (a.start == b.start && nat_lt a.count b.count) h) [
  | inl e ↦ inl (is_less a.start b.start e)
  | inr e ↦ let parts = and_parts (a.start == b.start) (nat_lt a.count b.count) e in inr (number_is a.start b.start parts.0, is_less a.count b.count parts.1)
]

of_below : (a b : Epoch) → Below a b → is_epoch_below a b ≡ true
of_below a b (inl less) = or_left (nat_lt a.start b.start) (a.start == b.start && nat_lt a.count b.count) (less_is a.start b.start less)
of_below a b (inr parts) = or_right (nat_lt a.start b.start) (a.start == b.start && nat_lt a.count b.count) (and_from (a.start == b.start) (nat_lt a.count b.count) (same_is a.start b.start parts.0) (less_is a.count b.count parts.1))

below_below : (a b c : Epoch) → Below a b → Below b c → Below a c
below_below a b c (inl h) (inl k) = inl (omega (arith, h, k))
below_below a b c (inl h) (inr k) = let same = k.0 in inl (omega (arith, h, same))
below_below a b c (inr h) (inl k) = let same = h.0 in inl (omega (arith, k, same))
below_below a b c (inr h) (inr k) = inr (h.0 ∙ k.0, (let one = h.1 in let two = k.1 in omega (arith, one, two)))

not_below : (a : Epoch) → Below a a → ⊥
not_below a (inl h) = omega (arith, h)
not_below a (inr h) = let less = h.1 in omega (arith, less)

pub below_self : (a : Epoch) → is_epoch_below a a ≡ false
below_self a = false_from_ne_true (is_epoch_below a a) (λ t. not_below a (below_of a a t))

-- what is not below stays so for what is above
pub above_not : (a b e : Epoch) → is_epoch_below a e ≡ false → is_epoch_below a b ≡ true → is_epoch_below b e ≡ false
above_not a b e h k = false_from_ne_true (is_epoch_below b e) (λ t. clash (is_epoch_below a e) (of_below a e (below_below a b e (below_of a b k) (below_of b e t))) h)

-- two epochs of which neither is below the other are one
pub neither_below : (a b : Epoch) → is_epoch_below a b ≡ false → is_epoch_below b a ≡ false → a ≡ b
neither_below a b h k = λ i. record { start = starts i; count = counts i }
  where
    starts : a.start ≡ b.start
    starts = closest a.start b.start (λ less. clash (is_epoch_below a b) (of_below a b (inl less)) h) (λ less. clash (is_epoch_below b a) (of_below b a (inl less)) k)
      where
        closest : (x y : ℕ) → (x < y → ⊥) → (y < x → ⊥) → x ≡ y
        closest x y p q = by (nat_lt x y) refl (nat_lt y x) refl
          where
            by : (t : Bool) → nat_lt x y ≡ t → (u : Bool) → nat_lt y x ≡ u → x ≡ y
            by true e u f = absurd (p (is_less x y e))
            by false e true f = absurd (q (is_less y x f))
            by false e false f = grind (arith, nat_tests)

    counts : a.count ≡ b.count
    counts = closest a.count b.count (λ less. clash (is_epoch_below a b) (of_below a b (inr (starts, less))) h) (λ less. clash (is_epoch_below b a) (of_below b a (inr (sym starts, less))) k)
      where
        closest : (x y : ℕ) → (x < y → ⊥) → (y < x → ⊥) → x ≡ y
        closest x y p q = by (nat_lt x y) refl (nat_lt y x) refl
          where
            by : (t : Bool) → nat_lt x y ≡ t → (u : Bool) → nat_lt y x ≡ u → x ≡ y
            by true e u f = absurd (p (is_less x y e))
            by false e true f = absurd (q (is_less y x f))
            by false e false f = grind (arith, nat_tests)

-- ---- two majorities of the cells share one

too_many : (n a b l : ℕ) → n < 2 * a → n < 2 * b → l ≡ n → a + b ≤ l → ⊥
too_many n a b l h k e f = omega (arith, h, k, e, f)

pub cells_meet : (c : Cluster) (f g : ℕ → Bool) → IsCellMajority c f → IsCellMajority c g → Shared f g
cells_meet c f g h k = go (overlap f g (cells c))
  where
    go : (count f (cells c) + count g (cells c) ≤ length (cells c)) ⊎ Shared f g → Shared f g
    go (inl few) = absurd (too_many c.cells (count f (cells c)) (count g (cells c)) (length (cells c)) h k (length-range_with_len 1 c.cells) few)
    go (inr shared) = shared

-- ---- items

pub stood_first : (first item : Item) (tape : List Item) → StoodBefore first item tape → Stands first tape
stood_first first item [] h = absurd h
stood_first first item (other ∷ before) (inl both) = inr both.1
stood_first first item (other ∷ before) (inr h) = inr (stood_first first item before h)

pub stood_second : (first item : Item) (tape : List Item) → StoodBefore first item tape → Stands item tape
stood_second first item [] h = absurd h
stood_second first item (other ∷ before) (inl both) = inl both.0
stood_second first item (other ∷ before) (inr h) = inr (stood_second first item before h)

-- of two that stood in order, a third stands before the later one or behind the earlier one
pub between : (first item other : Item) (tape : List Item) → StoodBefore first item tape → Stands other tape → (other ≡ item → ⊥) → StoodBefore other item tape ⊎ StoodBefore first other tape
between first item other [] h s apart = absurd h
between first item other (one ∷ before) (inl both) (inl same) apart = absurd (apart (sym same ∙ both.0))
between first item other (one ∷ before) (inl both) (inr s) apart = inl (inl (both.0, s))
between first item other (one ∷ before) (inr h) (inl same) apart = inr (inl (same, stood_first first item before h))
between first item other (one ∷ before) (inr h) (inr s) apart = elim (between first item other before h s apart) [ inl a ↦ inl (inr a) | inr b ↦ inr (inr b) ]

pub before_behind : (later tape : List Item) (first item : Item) → StoodBefore first item tape → StoodBefore first item (later ++ tape)
before_behind [] tape first item s = s
before_behind (one ∷ later) tape first item s = inr (before_behind later tape first item s)

-- two moments of one tape are in order
tail_of : List Item → List Item
tail_of [] = []
tail_of (item ∷ before) = before

in_order : (one two a b : List Item) → one ++ a ≡ two ++ b → Earlier a b ⊎ Earlier b a
unfolding tail_of
in_order [] two a b same = inr (record { later = two; is = same })
in_order (x ∷ one) [] a b same = inl (record { later = x ∷ one; is = sym same })
in_order (x ∷ one) (y ∷ two) a b same = in_order one two a b (ap tail_of same)

pub moments_ordered : (a b tape : List Item) → Earlier a tape → Earlier b tape → Earlier a b ⊎ Earlier b a
moments_ordered a b tape h k = in_order h.later k.later a b (sym h.is ∙ k.is)
