-- How far a text was written, piece by piece.
use Rattle.std.proofs.Common.{◌≡◌, ℕ, zero, suc, ◌+◌, ◌≤◌, min, List, [], ◌∷◌, ◌++◌, length, take, refl, sym, ap, ◌∙◌, subst, arith, append_assoc, append-nil, Option}
use Rattle.std.specs.Io.KnownBytes.{Appends}
use Rattle.std.proofs.KnownBytes.{Appends-trans}
use Rattle.std.proofs.Math.Seq.{take-append-add}
use Rattle.std.proofs.lemmas.List.{take-append-le}
use Rattle.mega_io.specs.Pieces.{AppendsFront}
use Rattle.mega_io.proofs.Writing.{Written}

shorter : {A : Type 0} (k : ℕ) (xs : List A) → take (min k (length xs)) xs ≡ take k xs
shorter zero [] = refl
shorter zero (x ∷ xs) = let none : min 0 (suc (length xs)) ≡ 0 = omega arith in ap (λ k. take k (x ∷ xs)) none
shorter {A} (suc k) [] = nothing (min (suc k) 0)
  where
    nothing : (n : ℕ) → take {A = A} n [] ≡ []
    nothing zero = refl
    nothing (suc n) = refl
shorter (suc k) (x ∷ xs) = let least : min (suc k) (suc (length xs)) ≡ suc (min k (length xs)) = omega arith in ap (λ n. take n (x ∷ xs)) least ∙ ap (λ ys. x ∷ ys) (shorter k xs)

-- a piece more was written, or a front of it, or nothing
pub wrote_on : (a b c : Option (List ℕ)) (whole piece rest : List ℕ) → Written a b whole (piece ++ rest) → Appends b c piece → Written a c whole rest
wrote_on a b c whole piece rest w more = record { front = w.front ++ piece; appends = Appends-trans a b c w.front piece w.appends more; whole = w.whole ∙ sym (append_assoc w.front piece rest) }

pub wrote_front : (a b c : Option (List ℕ)) (whole piece rest : List ℕ) → Written a b whole (piece ++ rest) → AppendsFront b c piece → AppendsFront a c whole
wrote_front a b c whole piece rest w more =
    let n = min more.0 (length piece) in
    let short : n ≤ length piece = omega arith in
    let same : take n piece ≡ take more.0 piece = shorter more.0 piece in
    let front : take (length w.front + n) whole ≡ w.front ++ take more.0 piece = ap (take (length w.front + n)) w.whole ∙ take-append-add w.front (piece ++ rest) n ∙ ap (λ xs. w.front ++ xs) (take-append-le n piece rest short ∙ same) in
    (length w.front + n, subst (Appends a c) (sym front) (Appends-trans a b c w.front (take more.0 piece) w.appends more.1))

pub wrote_all : (a b : Option (List ℕ)) (whole rest : List ℕ) → Written a b whole rest → rest ≡ [] → Appends a b whole
wrote_all a b whole rest w none = let e : whole ≡ w.front = w.whole ∙ ap (λ xs. w.front ++ xs) none ∙ append-nil w.front in subst (Appends a b) (sym e) w.appends

-- a text of two parts
pub both_written : (a b c : Option (List ℕ)) (piece rest : List ℕ) → Appends a b piece → Appends b c rest → Appends a c (piece ++ rest)
both_written a b c piece rest first more = Appends-trans a b c piece rest first more

pub front_behind : (a b c : Option (List ℕ)) (piece rest : List ℕ) → Appends a b piece → AppendsFront b c rest → AppendsFront a c (piece ++ rest)
front_behind a b c piece rest first more = (length piece + more.0, subst (Appends a c) (sym (take-append-add piece rest more.0)) (Appends-trans a b c piece (take more.0 rest) first more.1))

pub front_first : (a b : Option (List ℕ)) (piece rest : List ℕ) → AppendsFront a b piece → AppendsFront a b (piece ++ rest)
front_first a b piece rest more =
    let n = min more.0 (length piece) in
    let short : n ≤ length piece = omega arith in
    (n, subst (Appends a b) (sym (take-append-le n piece rest short ∙ shorter more.0 piece)) more.1)
