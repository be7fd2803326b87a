-- Texts that are the same are equal, and what stands at one of them.
use Rattle.std.proofs.Common.{◌≡◌, ℕ, ◌==◌, ◌&&◌, cond, Bool, true, false, [], ◌∷◌, refl, ap, ◌∙◌, subst, arith}
use Rattle.std.proofs.lemmas.Bool.Decides.{nat_tests}
use Rattle.mega_two_laws.specs.World.{Text, same, at}

pub both_true : (a b : Bool) → (a && b) ≡ true → (a ≡ true) × (b ≡ true)
both_true true true h = (refl, refl)
both_true true false h = absurd (cc)
both_true false b h = absurd (cc)

number_is : (x y : ℕ) → (x == y) ≡ true → x ≡ y
number_is x y h = grind (arith, nat_tests)

number_self : (x : ℕ) → (x == x) ≡ true
number_self x = grind (arith, nat_tests)

pub same_is : (a b : Text) → same a b ≡ true → a ≡ b
same_is [] [] h = refl
same_is [] (y ∷ ys) h = absurd (cc)
same_is (x ∷ xs) [] h = absurd (cc)
same_is (x ∷ xs) (y ∷ ys) h =
    let p = both_true (x == y) (same xs ys) h in
    let first : x ≡ y = number_is x y p.0 in
    let rest : xs ≡ ys = same_is xs ys p.1 in
    cc

pub same_self : (a : Text) → same a a ≡ true
same_self [] = refl
same_self (x ∷ xs) = ap (λ b. b && same xs xs) (number_self x) ∙ same_self xs

pub not_same : (a b : Text) → same a b ≡ false → a ≡ b → ⊥
not_same a b apart e = let yes : same a b ≡ true = subst (λ c. same a c ≡ true) e (same_self a) in cc

pub at_self : {A : Type 0} (key : Text) (value : A) (old : Text → A) → at key value old key ≡ value
at_self key value old = ap (λ b. cond b value (old key)) (same_self key)

pub at_same : {A : Type 0} (key other : Text) (value : A) (old : Text → A) → same key other ≡ true → at key value old other ≡ value
at_same key other value old is = ap (λ b. cond b value (old other)) is

pub at_other : {A : Type 0} (key other : Text) (value : A) (old : Text → A) → same key other ≡ false → at key value old other ≡ old other
at_other key other value old is = ap (λ b. cond b value (old other)) is
