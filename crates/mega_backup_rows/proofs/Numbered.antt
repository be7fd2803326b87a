-- Tables by their numbers: the first one has the number 1.
use Rattle.std.proofs.Common.{◌≡◌, ℕ, zero, suc, ◌+◌, ◌-◌, ◌<◌, cond, eqb, Bool, false, List, [], ◌∷◌, length, take, get_or, slice_get, refl, sym, ap, ◌∙◌, arith, Some, None}
use Rattle.std.proofs.lemmas.Bool.Decides.{nat_tests}
use Rattle.std.proofs.lemmas.Option.{slice_get_read}
use Rattle.mega_schema.specs.declared.schema.Table.{Table}
use Rattle.mega_index.specs.Fits.{numbered}

front_get : {A : Type 0} (n : ℕ) (xs : List A) (i : ℕ) (x : A) → slice_get (take n xs) i ≡ Some x → slice_get xs i ≡ Some x
front_get zero xs i x h = absurd (cc)
front_get (suc n) [] i x h = absurd (cc)
front_get (suc n) (y ∷ xs) zero x h = h
front_get (suc n) (y ∷ xs) (suc i) x h = front_get n xs i x h

not_zero : (i : ℕ) → eqb (i + 1) 0 ≡ false
not_zero i = grind (arith, nat_tests)

numbered_at : (tables : List Table) (i : ℕ) (t : Table) → slice_get tables i ≡ Some t → numbered tables (i + 1) ≡ Some t
numbered_at tables i t there =
    ap (λ (b : Bool). cond b None (slice_get tables (i + 1 - 1))) (not_zero i) ∙ ap (slice_get tables) (let same : i + 1 - 1 ≡ i = omega arith in same) ∙ there

-- one of the first 64
pub numbered_there : (tables shown : List Table) (i : ℕ) (t : Table) → shown ≡ take 64 tables → i < length shown → t ≡ get_or shown i t → numbered tables (i + 1) ≡ Some t
numbered_there tables shown i t is within at =
    numbered_at tables i t (front_get 64 tables i t (ap (λ (all : List Table). slice_get all i) (sym is) ∙ slice_get_read shown (length shown) i t refl within at))
