-- A clock in memory never goes back.
use Rattle.std.proofs.Common.{◌≡◌, ℕ, zero, suc, ◌<◌, ◌≤◌, List, [], ◌∷◌, length, get_or, refl, sym, subst, add-one, arith}
use Rattle.mega_link.specs.Readings.{IsCourse}

-- within a list the default does not count
same_at : (xs : List ℕ) (i d e : ℕ) → i < length xs → get_or xs i d ≡ get_or xs i e
same_at [] i d e more = absurd (omega arith)
same_at (x ∷ xs) zero d e more = refl
same_at (x ∷ xs) (suc i) d e more = same_at xs i d e (omega arith)

next_at : (readings : List ℕ) (index extra last : ℕ) → IsCourse readings index extra last → index < length readings → last ≤ get_or readings index 0
next_at readings zero extra last course more = let h = course.begins refl in omega arith
next_at readings (suc i) extra last course more =
    let at = course.goes_on i (sym (add-one i)) in
    let least = subst (λ k. get_or readings i 0 ≤ get_or readings k 0) (add-one i) (course.never_falls i (omega arith)) in
    omega arith

-- the next reading is not below the last
pub next_reading : (readings : List ℕ) (index extra last next : ℕ) → IsCourse readings index extra last → index < length readings → next ≡ get_or readings index next → last ≤ next
next_reading readings index extra last next course more is = let least = next_at readings index extra last course more in let same = same_at readings index next 0 more in omega arith
