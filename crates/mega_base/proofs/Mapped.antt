-- A list that is mapped place by place.
use Rattle.std.proofs.Common.{◌≡◌, ℕ, zero, suc, ◌+◌, ◌∙◌, add-one, ◌<◌, ◌≤◌, List, [], ◌∷◌, ◌++◌, map, length, take, drop, set, get_or, refl, ap, arith}

-- the first i elements of xs under f, and then those of zs
abbrev pub so_far : {A B : Type 0} → (A → B) → List A → List B → ℕ → List B
so_far f xs zs i = map f (take i xs) ++ drop i zs

-- one more element
pub so_far_set : {A B : Type 0} (f : A → B) (xs : List A) (zs : List B) (i : ℕ) (d : A) → i < length xs → length zs ≡ length xs → set (so_far f xs zs i) i (f (get_or xs i d)) ≡ so_far f xs zs (suc i)
so_far_set f [] zs i d lt same = absurd (omega arith)
so_far_set f (y ∷ xs) [] i d lt same = absurd (omega arith)
so_far_set f (y ∷ xs) (z ∷ zs) zero d lt same = refl
so_far_set f (y ∷ xs) (z ∷ zs) (suc i) d lt same = ap (λ vs. f y ∷ vs) (so_far_set f xs zs i d (omega arith) (omega arith))

-- the same, as code counts
pub so_far_more : {A B : Type 0} (f : A → B) (xs : List A) (zs ys : List B) (i : ℕ) (d : A) (y : B) → ys ≡ so_far f xs zs i → y ≡ f (get_or xs i d) → i < length xs → length zs ≡ length xs → set ys i y ≡ so_far f xs zs (i + 1)
so_far_more f xs zs ys i d y is made lt same = rw add-one (ap (λ vs. set vs i y) is ∙ (ap (λ v. set (so_far f xs zs i) i v) made ∙ so_far_set f xs zs i d lt same))

-- all elements
pub so_far_all : {A B : Type 0} (f : A → B) (xs : List A) (zs : List B) (i : ℕ) → length xs ≤ i → length zs ≡ length xs → so_far f xs zs i ≡ map f xs
so_far_all f [] [] zero le same = refl
so_far_all f [] (z ∷ zs) i le same = absurd (omega arith)
so_far_all f (y ∷ xs) zs zero le same = absurd (omega arith)
so_far_all f [] [] (suc i) le same = refl
so_far_all f (y ∷ xs) [] (suc i) le same = absurd (omega arith)
so_far_all f (y ∷ xs) (z ∷ zs) (suc i) le same = ap (λ vs. f y ∷ vs) (so_far_all f xs zs i (omega arith) (omega arith))
