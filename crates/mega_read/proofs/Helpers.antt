-- A node is among all nodes but one exactly where it is among them and is not that one.
use Rattle.std.proofs.Common.{◌≡◌, ℕ, ◌==◌, ◌&&◌, ◌||◌, Bool, true, false, List, [], ◌∷◌, refl, arith}
use Rattle.std.specs.Prelude.{not, if◌then◌else◌}
use Rattle.std.proofs.lemmas.Bool.Decides.{nat_tests}
use Rattle.mega_propose.specs.Members.{has, others}

none : (t : Bool) → false ≡ (not t && false)
none true = refl
none false = refl

left_out : (t u rest all : Bool) → (u ≡ true → t ≡ true) → rest ≡ (not t && all) → rest ≡ (not t && (u || all))
left_out true u rest all c h = h
left_out false true rest all c h = let e = c refl in cc
left_out false false rest all c h = h

kept : (t u rest all : Bool) → (u ≡ true → t ≡ false) → rest ≡ (not t && all) → (u || rest) ≡ (not t && (u || all))
kept true true rest all c h = let e = c refl in cc
kept true false rest all c h = h
kept false true rest all c h = refl
kept false false rest all c h = h

same_node : (x node self : ℕ) → (x == self) ≡ true → (x == node) ≡ true → (node == self) ≡ true
same_node x node self e u = grind (arith, nat_tests)

other_node : (x node self : ℕ) → (x == self) ≡ false → (x == node) ≡ true → (node == self) ≡ false
other_node x node self e u = grind (arith, nat_tests)

one_more : (node self x : ℕ) (xs : List ℕ) → has node (others self xs) ≡ (not (node == self) && has node xs) → (b : Bool) → (x == self) ≡ b
    → has node (if not b then x ∷ others self xs else others self xs) ≡ (not (node == self) && ((x == node) || has node xs))
one_more node self x xs h true e = left_out (node == self) (x == node) (has node (others self xs)) (has node xs) (same_node x node self e) h
one_more node self x xs h false e = kept (node == self) (x == node) (has node (others self xs)) (has node xs) (other_node x node self e) h

pub has_others : (node self : ℕ) (nodes : List ℕ) → has node (others self nodes) ≡ (not (node == self) && has node nodes)
has_others node self [] = none (node == self)
has_others node self (x ∷ xs) = one_more node self x xs (has_others node self xs) (x == self) refl
