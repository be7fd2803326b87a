-- What holds of each of a list holds of each of what is made of it.
use Rattle.std.proofs.Common.{ℕ, suc, zero, ◌+◌, ◌≤◌, Bool, true, false, cond, List, [], ◌∷◌, ◌++◌, length, map, flat_map, fold, arith}
use Rattle.std.specs.Prelude.{All, filter, take}
use Rattle.std.proofs.lemmas.List.Elements.{All-cons, All-head, All-nil, All-tail}
use Rattle.std.specs.List.{range_with_len}
use Rattle.mega_format_laws.specs.Rounds.{Each, IsMember}

pub each_map : {X Y : Type 0} (P : X → Type 0) (Q : Y → Type 0) (f : X → Y) → ((x : X) → P x → Q (f x)) → (xs : List X) → Each P xs → Each Q (map f xs)
each_map P Q f h [] e = tt
each_map P Q f h (x ∷ xs) e = (h x e.0, each_map P Q f h xs e.1)

pub each_both : {X : Type 0} (P : X → Type 0) (xs ys : List X) → Each P xs → Each P ys → Each P (xs ++ ys)
each_both P [] ys a b = b
each_both P (x ∷ xs) ys a b = (a.0, each_both P xs ys a.1 b)

pub each_flat : {X Y : Type 0} (P : X → Type 0) (Q : Y → Type 0) (f : X → List Y) → ((x : X) → P x → Each Q (f x)) → (xs : List X) → Each P xs → Each Q (flat_map f xs)
each_flat P Q f h [] e = tt
each_flat P Q f h (x ∷ xs) e = each_both Q (f x) (flat_map f xs) (h x e.0) (each_flat P Q f h xs e.1)

pub either : {X : Type 0} (P : X → Type 0) (t : Bool) (x y : X) → P x → P y → P (cond t x y)
either P true x y a b = a
either P false x y a b = b

pub each_filter : {X : Type 0} (P : X → Type 0) (test : X → Bool) (xs : List X) → Each P xs → Each P (filter test xs)
each_filter P test [] e = tt
each_filter P test (x ∷ xs) e = either (Each P) (test x) (x ∷ filter test xs) (filter test xs) (e.0, each_filter P test xs e.1) (each_filter P test xs e.1)

pub each_numbered : (a n : ℕ) → 1 ≤ a → a + n ≤ 10 → Each IsMember (range_with_len a n)
each_numbered a zero low high = tt
each_numbered a (suc n) low high = ((low, omega (arith, high)), each_numbered (a + 1) n (omega (arith, low)) (omega (arith, high)))

pub each_take : {X : Type 0} (P : X → Type 0) (n : ℕ) (xs : List X) → Each P xs → Each P (take n xs)
each_take P zero xs e = tt
each_take P (suc n) [] e = tt
each_take P (suc n) (x ∷ xs) e = (e.0, each_take P n xs e.1)

pub take_length : {X : Type 0} (n : ℕ) (xs : List X) → length (take n xs) ≤ length xs
take_length zero xs = omega arith
take_length (suc n) [] = omega arith
take_length (suc n) (x ∷ xs) = let le = take_length n xs in omega (arith, le)

pub each_of_all : {X : Type 0} (P : X → Type 0) (xs : List X) → All P xs → Each P xs
each_of_all P [] h = tt
each_of_all P (x ∷ xs) h = (All-head P x xs h, each_of_all P xs (All-tail P x xs h))

pub all_of_each : {X : Type 0} (P : X → Type 0) (xs : List X) → Each P xs → All P xs
all_of_each P [] h = All-nil P
all_of_each P (x ∷ xs) h = All-cons P x xs h.0 (all_of_each P xs h.1)

pub each_fold : {X Y : Type 0} (P : X → Type 0) (Q : Y → Type 0) (f : X → Y → X) → ((x : X) (y : Y) → P x → Q y → P (f x y)) → (x : X) (ys : List Y) → P x → Each Q ys → P (fold f x ys)
each_fold P Q f h x [] p e = p
each_fold P Q f h x (y ∷ ys) p e = each_fold P Q f h (f x y) ys (h x y p e.0) e.1

pub each_weaker : {X : Type 0} (P Q : X → Type 0) → ((x : X) → P x → Q x) → (xs : List X) → Each P xs → Each Q xs
each_weaker P Q h [] e = tt
each_weaker P Q h (x ∷ xs) e = (h x e.0, each_weaker P Q h xs e.1)
