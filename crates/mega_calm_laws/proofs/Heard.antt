-- Lists of those that were heard, and of the messages to each of them.
use Rattle.std.proofs.Common.{◌≡◌, inl, inr, ℕ, List, [], ◌∷◌, map, refl, ap}
use Rattle.mega_wire.specs.declared.message.Message.{Message}
use Rattle.mega_leased_laws.specs.of_run_laws.Justified.{Each}
use Rattle.mega_calm_laws.proofs.Mail.{Among}

pub among_map : (f : ℕ → Message) (x : ℕ) (xs : List ℕ) → Among x xs → Among (f x) (map f xs)
among_map f x [] i = absurd i
among_map f x (y ∷ ys) (inl e) = inl (ap f e)
among_map f x (y ∷ ys) (inr i) = inr (among_map f x ys i)

pub each_map : (P : Message → Type 0) (f : ℕ → Message) (xs : List ℕ) → ((x : ℕ) → Among x xs → P (f x)) → Each P (map f xs)
each_map P f [] h = tt
each_map P f (x ∷ xs) h = (h x (inl refl), each_map P f xs (λ y i. h y (inr i)))

pub is_first : (xs : List ℕ) (x : ℕ) → Among x xs → (first : ℕ) × (more : List ℕ) × (xs ≡ first ∷ more)
is_first [] x i = absurd i
is_first (y ∷ ys) x i = (y, ys, refl)
