-- The nine places of a cell.
use Rattle.std.proofs.Common.{◌≡◌, ℕ, zero, suc, ◌-◌, ◌∙◌, ◌≤◌, List, map, get_or, refl, ap, arith}
use Rattle.mega_locks.specs.History.{nodes}

-- the place of a node
pub place_of : {A : Type 0} (f : ℕ → A) (node : ℕ) (d : A) → 1 ≤ node → node ≤ 9 → get_or (map f nodes) (node - 1) d ≡ f node
place_of f zero d low high = absurd (omega arith)
place_of f (suc zero) d low high = refl
place_of f (suc (suc zero)) d low high = refl
place_of f (suc (suc (suc zero))) d low high = refl
place_of f (suc (suc (suc (suc zero)))) d low high = refl
place_of f (suc (suc (suc (suc (suc zero))))) d low high = refl
place_of f (suc (suc (suc (suc (suc (suc zero)))))) d low high = refl
place_of f (suc (suc (suc (suc (suc (suc (suc zero))))))) d low high = refl
place_of f (suc (suc (suc (suc (suc (suc (suc (suc zero)))))))) d low high = refl
place_of f (suc (suc (suc (suc (suc (suc (suc (suc (suc zero))))))))) d low high = refl
place_of f (suc (suc (suc (suc (suc (suc (suc (suc (suc (suc rest)))))))))) d low high = absurd (omega arith)

-- what a list by node has at the place of a node
pub place_in : {A : Type 0} (xs : List A) (f : ℕ → A) (node i : ℕ) (d : A) → xs ≡ map f nodes → i ≡ node → 1 ≤ node → node ≤ 9 → get_or xs (i - 1) d ≡ f node
place_in xs f node i d is e low high = ap (λ k. get_or xs (k - 1) d) e ∙ (ap (λ vs. get_or vs (node - 1) d) is ∙ place_of f node d low high)
