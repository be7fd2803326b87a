-- What calls of a device leave of its fuse and of its count of faults, one after another.
use Rattle.std.proofs.Common.{◌≡◌, ◌∙◌, ◌≤◌, subst, sym, inl, inr, ⊎_elim, refl, ℕ, arith}
use Rattle.mega_base.specs.Causes.{Rose}
use Rattle.mega_disk.specs.Fuse.{Fuse, Untold, Unset, Left, MayBurn, Burns}

pub burn_here : (f : Fuse) → MayBurn f f
burn_here Untold = refl
burn_here Unset = refl
burn_here (Left n) = inr (n, refl, omega arith)

pub burn_then : (f g h : Fuse) → MayBurn f g → MayBurn g h → MayBurn f h
burn_then Untold g h first second = subst (λ (m : Fuse). MayBurn m h) first second
burn_then Unset g h first second = subst (λ (m : Fuse). MayBurn m h) first second
burn_then (Left n) g h first second =
    ⊎_elim
    (λ gone. inl (let P : Fuse → Type 0 = λ m. MayBurn m h in subst P gone second))
    (λ left.
    let P : Fuse → Type 0 = λ m. MayBurn m h in
    ⊎_elim (λ gone. inl gone) (λ less. inr (less.0, less.1, omega (arith, less.2, left.2))) (subst P left.1 second))
    first

pub burns_then : (f g h : Fuse) → MayBurn f g → Burns g h → Burns f h
burns_then Untold g h first burns = absurd (untold (sym first ∙ burns.was_set.1))
  where
    untold : Untold ≡ Left burns.was_set.0 → ⊥
    untold e = cc
burns_then Unset g h first burns = absurd (unset (sym first ∙ burns.was_set.1))
  where
    unset : Unset ≡ Left burns.was_set.0 → ⊥
    unset e = cc
burns_then (Left n) g h first burns = record { was_set = (n, refl); gone = burns.gone }

pub rose_later : (a b c : ℕ) → a ≤ b → Rose b c → Rose a c
rose_later a b c le rose = omega (arith, le, rose)
