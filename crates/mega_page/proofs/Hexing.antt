-- Bytes in hex, part by part.
use Rattle.std.proofs.Common.{◌≡◌, ℕ, List, [], ◌∷◌, ◌++◌, ap, append-nil, append_assoc, drop, refl, sym, take, ◌∙◌}
use Rattle.std.specs.Prelude.{slice_index, ◌/◌, ◌%◌}
use Rattle.std.proofs.lemmas.List.{take-append-drop}
use Rattle.hex.specs.Hex.{encode_lower, encode_with, lower_digits}

hex_joined : (t front rest : List ℕ) → encode_with t (front ++ rest) ≡ encode_with t front ++ encode_with t rest
unfolding encode_with
hex_joined t [] rest = refl
hex_joined t (b ∷ front) rest = ap (λ (xs : List ℕ). slice_index t (b / 16) ∷ slice_index t (b % 16) ∷ xs) (hex_joined t front rest)

-- what is spelled, and what is left: a part more
pub part_more : (n : ℕ) (before next whole front rest behind : List ℕ) → before ++ encode_lower rest ≡ whole → front ≡ take n rest → behind ≡ drop n rest → next ≡ before ++ encode_lower front → next ++ encode_lower behind ≡ whole
part_more n before next whole front rest behind so_far cut left more =
    (λ i. (more ∙ ap (λ (xs : List ℕ). before ++ encode_lower xs) cut) i ++ encode_lower (left i))
    ∙ append_assoc before (encode_lower (take n rest)) (encode_lower (drop n rest))
    ∙ ap (λ (xs : List ℕ). before ++ xs) (sym (hex_joined lower_digits (take n rest) (drop n rest)))
    ∙ ap (λ (xs : List ℕ). before ++ encode_lower xs) (take-append-drop n rest)
    ∙ so_far

-- all is spelled where nothing is left
pub none_left : (before whole rest : List ℕ) → before ++ encode_lower rest ≡ whole → rest ≡ [] → before ≡ whole
unfolding encode_with
none_left before whole rest so_far none = sym (append-nil before) ∙ ap (λ (xs : List ℕ). before ++ encode_lower xs) (sym none) ∙ so_far
