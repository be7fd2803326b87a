-- Two majorities share a voter.
use Rattle.std.proofs.Common.{◌≡◌, ◌⊎◌, inl, inr, ℕ, ◌+◌, ◌*◌, ◌<◌, ◌≤◌, Bool, true, false, cond, List, [], ◌∷◌, length, refl, arith}
use Rattle.mega_cluster.specs.declared.cluster.Cluster.{Cluster}
use Rattle.mega_promises.specs.of_rules.Members.{voters}
use Rattle.mega_tape_laws.specs.Places.{IsMajority, count}

pub record Shared (f g : ℕ → Bool) : Type 0 where
  pub node : ℕ
  pub first : f node ≡ true
  pub second : g node ≡ true

-- nodes of which none passes both tests are as many at least as pass the one and the other
pub overlap : (f g : ℕ → Bool) (nodes : List ℕ) → (count f nodes + count g nodes ≤ length nodes) ⊎ Shared f g
overlap f g [] = inl (omega arith)
overlap f g (node ∷ nodes) = go (f node) (g node) refl refl (overlap f g nodes)
  where
    go : (s t : Bool) → f node ≡ s → g node ≡ t → (count f nodes + count g nodes ≤ length nodes) ⊎ Shared f g
        → ((cond s 1 0 + count f nodes) + (cond t 1 0 + count g nodes) ≤ length (node ∷ nodes)) ⊎ Shared f g
    go true true x y h = inr (record { node = node; first = x; second = y })
    go true false x y (inl h) = inl (omega arith)
    go false true x y (inl h) = inl (omega arith)
    go false false x y (inl h) = inl (omega arith)
    go true false x y (inr h) = inr h
    go false true x y (inr h) = inr h
    go false false x y (inr h) = inr h

too_many : (n a b : ℕ) → n < 2 * a → n < 2 * b → a + b ≤ n → ⊥
too_many n a b h k l = omega arith

pub meet : (c : Cluster) (f g : ℕ → Bool) → IsMajority c f → IsMajority c g → Shared f g
meet c f g h k = go (overlap f g (voters c))
  where
    go : (count f (voters c) + count g (voters c) ≤ length (voters c)) ⊎ Shared f g → Shared f g
    go (inl few) = absurd (too_many (length (voters c)) (count f (voters c)) (count g (voters c)) h k few)
    go (inr shared) = shared
