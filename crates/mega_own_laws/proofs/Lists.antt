-- What holds of each of a list.
use Rattle.std.proofs.Common.{inl, inr, Bool, true, false, cond, List, [], ◌∷◌, map, flat_map, fold, subst}
use Rattle.mega_run_laws.specs.of_tape_laws.Places.{In}
use Rattle.mega_run_laws.specs.Justified.{Each}
use Rattle.mega_run_laws.proofs.Events.{each_append}

pub either : {X : Type 0} (P : X → Type 0) (t : Bool) (x y : X) → P x → P y → P (cond t x y)
either P true x y a b = a
either P false x y a b = b

pub each_map : {X Y : Type 0} (P : X → Type 0) (Q : Y → Type 0) (f : X → Y) → ((x : X) → P x → Q (f x)) → (xs : List X) → Each P xs → Each Q (map f xs)
each_map P Q f h [] e = tt
each_map P Q f h (x ∷ xs) e = (h x e.0, each_map P Q f h xs e.1)

-- what is made of anything
pub any_map : {X Y : Type 0} (Q : Y → Type 0) (f : X → Y) → ((x : X) → Q (f x)) → (xs : List X) → Each Q (map f xs)
any_map Q f h [] = tt
any_map Q f h (x ∷ xs) = (h x, any_map Q f h xs)

pub any_flat : {X Y : Type 0} (Q : Y → Type 0) (f : X → List Y) → ((x : X) → Each Q (f x)) → (xs : List X) → Each Q (flat_map f xs)
any_flat Q f h [] = tt
any_flat Q f h (x ∷ xs) = each_append Q (f x) (flat_map f xs) (h x) (any_flat Q f h xs)

pub each_fold : {X Y : Type 0} (P : X → Type 0) (Q : Y → Type 0) (f : X → Y → X) → ((x : X) (y : Y) → P x → Q y → P (f x y)) → (x : X) (ys : List Y) → P x → Each Q ys → P (fold f x ys)
each_fold P Q f h x [] p e = p
each_fold P Q f h x (y ∷ ys) p e = each_fold P Q f h (f x y) ys (h x y p e.0) e.1

pub each_in : {X : Type 0} (P : X → Type 0) (xs : List X) (x : X) → Each P xs → In x xs → P x
each_in P [] x e at = absurd at
each_in P (y ∷ xs) x e (inl same) = subst P same e.0
each_in P (y ∷ xs) x e (inr at) = each_in P xs x e.1 at
