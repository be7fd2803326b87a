-- What filling a range leaves of fronts and ends.
use Rattle.std.proofs.Common.{◌≡◌, ℕ, zero, suc, ◌+◌, ◌-◌, min, List, [], ◌∷◌, ◌++◌, length, take, drop, refl, sym, ◌∙◌, ap, arith}
use Rattle.std.specs.Prelude.{replicate}
use Rattle.mega_disk.specs.Changes.{filled}

pub length-filled : (at count : ℕ) (content : List ℕ) → length (filled at count content) ≡ length content
length-filled at count [] = refl
length-filled zero zero (x ∷ content) = refl
length-filled zero (suc count) (x ∷ content) = ap suc (length-filled zero count content)
length-filled (suc at) count (x ∷ content) = ap suc (length-filled at count content)

pub filled_none : (content : List ℕ) → filled 0 0 content ≡ content
filled_none [] = refl
filled_none (x ∷ content) = refl

pub take-filled : (k at count : ℕ) (content : List ℕ) → take k (filled at count content) ≡ filled at count (take k content)
take-filled zero at count content = refl
take-filled (suc k) at count [] = refl
take-filled (suc k) zero zero (x ∷ content) = refl
take-filled (suc k) zero (suc count) (x ∷ content) = ap (λ (l : List ℕ). 165 ∷ l) (take-filled k zero count content)
take-filled (suc k) (suc at) count (x ∷ content) = ap (λ (l : List ℕ). x ∷ l) (take-filled k at count content)

pub take-filled_front : (at count : ℕ) (content : List ℕ) → take at (filled at count content) ≡ take at content
take-filled_front zero count content = refl
take-filled_front (suc at) count [] = refl
take-filled_front (suc at) count (x ∷ content) = ap (λ (l : List ℕ). x ∷ l) (take-filled_front at count content)

-- behind the first k the rest of the range is filled
pub drop-filled : (k at count from rest : ℕ) (content : List ℕ) → from ≡ at - k → rest ≡ count - (k - at) → drop k (filled at count content) ≡ filled from rest (drop k content)
drop-filled zero at count from rest content e f = let same : from ≡ at = omega arith in let all : rest ≡ count = omega arith in cc
drop-filled (suc k) at count from rest [] e f = refl
drop-filled (suc k) zero zero from rest (x ∷ content) e f =
    let none : from ≡ 0 = omega arith in let nothing : rest ≡ 0 = omega arith in
    sym (filled_none (drop k content)) ∙ (let same : filled 0 0 (drop k content) ≡ filled from rest (drop k content) = cc in same)
drop-filled (suc k) zero (suc count) from rest (x ∷ content) e f = drop-filled k zero count from rest content (omega arith) (omega arith)
drop-filled (suc k) (suc at) count from rest (x ∷ content) e f = drop-filled k at count from rest content (omega arith) (omega arith)

pub drop-filled_behind : (at count : ℕ) (content : List ℕ) → drop (at + count) (filled at count content) ≡ drop (at + count) content
drop-filled_behind at count content = drop-filled (at + count) at count 0 0 content (omega arith) (omega arith) ∙ filled_none (drop (at + count) content)

-- in pieces
pub filled_split : (at count from many : ℕ) (content : List ℕ) → from ≡ min at (length content) → many ≡ min count (length content - from) → filled at count content ≡ take from content ++ replicate many 165 ++ drop (from + many) content
filled_split at count zero zero [] e f = refl
filled_split at count zero (suc many) [] e f = absurd (omega arith)
filled_split at count (suc from) many [] e f = absurd (omega arith)
filled_split zero zero zero zero (x ∷ content) e f = refl
filled_split zero zero zero (suc many) (x ∷ content) e f = absurd (omega arith)
filled_split zero zero (suc from) many (x ∷ content) e f = absurd (omega arith)
filled_split zero (suc count) zero zero (x ∷ content) e f = absurd (omega arith)
filled_split zero (suc count) zero (suc many) (x ∷ content) e f =
    let rest = filled_split zero count zero many content (omega arith) (omega arith) in
    ap (λ (l : List ℕ). 165 ∷ l) rest ∙ (let one : 0 + suc many ≡ suc (0 + many) = omega arith in ap (λ (k : ℕ). (165 ∷ replicate many 165) ++ drop k (x ∷ content)) (sym one))
filled_split zero (suc count) (suc from) many (x ∷ content) e f = absurd (omega arith)
filled_split (suc at) count zero many (x ∷ content) e f = absurd (omega arith)
filled_split (suc at) count (suc from) many (x ∷ content) e f =
    let rest = filled_split at count from many content (omega arith) (omega arith) in
    ap (λ (l : List ℕ). x ∷ l) rest ∙ (let one : suc from + many ≡ suc (from + many) = omega arith in ap (λ (k : ℕ). (x ∷ take from content) ++ replicate many 165 ++ drop k (x ∷ content)) (sym one))
