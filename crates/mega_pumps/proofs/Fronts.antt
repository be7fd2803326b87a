-- The first entries of a log, one after another.
use Rattle.std.proofs.Common.{◌≡◌, ◌∙◌, ap, sym, refl, ℕ, zero, suc, ◌+◌, ◌<◌, ◌≤◌, List, [], ◌∷◌, ◌++◌, take, length, arith}
use Rattle.std.specs.Prelude.{Option, Some, None, slice_get}
use Rattle.std.proofs.Math.Seq.{length-take-le, take-append-le}
use Rattle.std.specs.Prelude.{get_or}
use Rattle.std.proofs.lemmas.Option.{slice_get-get_or, slice_get_read}

some_is : {A : Type 0} (a b : A) → Some a ≡ Some b → a ≡ b
some_is a b h = cc

none_is : {A : Type 0} (a : A) → None ≡ Some a → ⊥
none_is a h = cc

more_by : {A : Type 0} (log : List A) (n : ℕ) (x : A) → slice_get log n ≡ Some x → take (suc n) log ≡ take n log ++ x ∷ []
more_by [] n x h = absurd (none_is x h)
more_by (y ∷ log) zero x h = ap (λ z. z ∷ []) (some_is y x h)
more_by (y ∷ log) (suc n) x h = ap (λ l. y ∷ l) (more_by log n x h)

pub take_more : {A : Type 0} (log : List A) (n : ℕ) (x : A) → slice_get log n ≡ Some x → take (n + 1) log ≡ take n log ++ x ∷ []
take_more log n x h = ap (λ m. take m log) (let e : n + 1 ≡ suc n = omega arith in e) ∙ more_by log n x h

pub take_length : {A : Type 0} (log : List A) (n : ℕ) → n ≤ length log → length (take n log) ≡ n
take_length log n le = length-take-le n log le

pub take_front : {A : Type 0} (log more : List A) (n : ℕ) → n ≤ length log → take n (log ++ more) ≡ take n log
take_front log more n le = take-append-le n log more le

pub not_none : {A : Type 0} (log : List A) (n : ℕ) → n < length log → None ≡ slice_get log n → ⊥
not_none [] n lt is = omega arith
not_none (x ∷ log) n lt is = none_is _ (is ∙ slice_get-get_or (x ∷ log) n x lt)

pub front_more : {A : Type 0} (items : List A) (n : ℕ) (x : A) → n < length items → x ≡ get_or items n x → take (n + 1) items ≡ take n items ++ x ∷ []
front_more items n x lt is = take_more items n x (slice_get_read items (length items) n x refl lt is)
