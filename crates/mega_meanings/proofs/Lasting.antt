-- Handlers whose meaning stayed mean what they meant, and those that the store brings mean what they are listed with.
use Rattle.std.proofs.Common.{◌≡◌, List, ℕ, Option, refl, subst, sym}
use Rattle.mega_handler.specs.Named.{Meaning, Meanings, meaning}
use Rattle.mega_meanings.specs.BuiltIn.{built_in}
use Rattle.mega_meanings.specs.Means.{Means}

pub means_still : (old new : List ℕ → Option Meaning) (h : Meanings) → new ≡ old → Means old h → Means new h
means_still old new h same means = subst (λ (makes : List ℕ → Option Meaning). Means makes h) (sym same) means

pub built_in_means : (makes : List ℕ → Option Meaning) → makes ≡ meaning built_in → Means makes built_in
built_in_means makes same = means_still (meaning built_in) makes built_in same (record { each = λ queue. refl })
