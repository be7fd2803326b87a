-- A number above a bound is none up to the bound.
use Rattle.std.proofs.Common.{◌≡◌, ℕ, ◌+◌, ◌-◌, ◌^◌, ◌<◌, ◌≤◌, List, ◌++◌, length, refl, sym, ◌∙◌, ap, subst, Result, Ok, Err, IsErr, arith}
use Rattle.mega_base.specs.Reading.{Place, place, Read, number_in}
use Rattle.mega_base.specs.Codec.{number_text, BytesBetween, Codec}
use Rattle.mega_base.specs.Codecs.{ok_parts}
use Rattle.mega_base.specs.Digits.{number_codec, pow_256_pos}

-- numbers of k bytes with one spelling are one
pub number_same : (k m n : ℕ) (r t : List ℕ) → m < 256 ^ k → n < 256 ^ k → number_text k m ++ r ≡ number_text k n ++ t → m ≡ n
number_same k m n r t small tiny e =
    let c = number_codec k 0 (256 ^ k - 1) (omega arith) (omega (arith, pow_256_pos k)) in
    let first : number_in k 0 (256 ^ k - 1) (place 0 (number_text k m ++ r)) ≡ Ok (m, place (0 + length (number_text k m)) r) = c.again 0 m r (omega arith, omega arith) in
    let second : number_in k 0 (256 ^ k - 1) (place 0 (number_text k n ++ t)) ≡ Ok (n, place (0 + length (number_text k n)) t) = c.again 0 n t (omega arith, omega arith) in
    let both : number_in k 0 (256 ^ k - 1) (place 0 (number_text k n ++ t)) ≡ Ok (m, place (0 + length (number_text k m)) r) = subst (λ (l : List ℕ). number_in k 0 (256 ^ k - 1) (place 0 l) ≡ Ok (m, place (0 + length (number_text k m)) r)) e first in
    (ok_parts m n (place (0 + length (number_text k m)) r) (place (0 + length (number_text k n)) t) (sym both ∙ second)).0

refused : (p : Place) (n : ℕ) (rest : List ℕ) (read : Read ℕ) → number_in 4 0 65536 p ≡ read → p.left ≡ number_text 4 n ++ rest → 65536 < n → n < 2 ^ 32 → IsErr (number_in 4 0 65536 p)
refused p n rest (Err at) e text above small = rw e refl
refused p n rest (Ok x) e text above small =
    let there = (number_codec 4 0 65536 (omega arith) (omega arith)).takes p x.0 x.1 e in
    let same : x.0 ≡ n = number_same 4 x.0 n x.1.left rest (omega (arith, there.1.1)) (omega arith) (sym there.0.text ∙ text) in
    absurd (omega (arith, same, there.1.1))

-- a number above the bound that stands at p
pub long_is_err : (p q : Place) (n : ℕ) → BytesBetween p (number_text 4 n) q → 65536 < n → n < 2 ^ 32 → IsErr (number_in 4 0 65536 p)
long_is_err p q n there above small = refused p n q.left (number_in 4 0 65536 p) refl there.text above small
