-- A header's lines, one more at a time.
use Rattle.std.proofs.Common.{◌≡◌, ℕ, ◌+◌, ◌<◌, ◌≤◌, true, false, cond, List, [], ◌∷◌, ◌++◌, length, drop, get_or, refl, sym, ap, ◌∙◌, append_assoc}
use Rattle.std.specs.Prelude.{Option, Some, None}
use Rattle.std.specs.List.{position_from}
use Rattle.std.proofs.Math.ListN.{drop_of_length-le}
use Rattle.std.proofs.lemmas.List.{drop_more}
use Rattle.picture.specs.Inputs.{is_mark, text_of}

parted : (lines : List (List ℕ)) (i : ℕ) (line : List ℕ) → i < length lines → line ≡ get_or lines i line → drop i lines ≡ line ∷ drop (i + 1) lines
parted lines i line lt is = drop_more lines i line lt ∙ ap (λ x. x ∷ drop (i + 1) lines) (sym is)

looked : (line : List ℕ) (rest : List (List ℕ)) (i : ℕ) → position_from is_mark i (line ∷ rest) ≡ cond (is_mark line) (Some i) (position_from is_mark (i + 1) rest)
looked line rest i = refl

-- a line that is no mark is passed over
pub place_on : (lines : List (List ℕ)) (i : ℕ) (line : List ℕ) (whole : Option ℕ) → i < length lines → line ≡ get_or lines i line → is_mark line ≡ false → position_from is_mark i (drop i lines) ≡ whole → position_from is_mark (i + 1) (drop (i + 1) lines) ≡ whole
place_on lines i line whole lt is none was =
    sym (ap (position_from is_mark i) (parted lines i line lt is) ∙ (looked line (drop (i + 1) lines) i ∙ ap (λ b. cond b (Some i) (position_from is_mark (i + 1) (drop (i + 1) lines))) none)) ∙ was

-- the mark stands here
pub place_here : (lines : List (List ℕ)) (i : ℕ) (line : List ℕ) (whole : Option ℕ) → i < length lines → line ≡ get_or lines i line → is_mark line ≡ true → position_from is_mark i (drop i lines) ≡ whole → Some i ≡ whole
place_here lines i line whole lt is some was =
    sym (ap (position_from is_mark i) (parted lines i line lt is) ∙ (looked line (drop (i + 1) lines) i ∙ ap (λ b. cond b (Some i) (position_from is_mark (i + 1) (drop (i + 1) lines))) some)) ∙ was

-- it stands nowhere
pub place_none : (lines : List (List ℕ)) (i : ℕ) (whole : Option ℕ) → length lines ≤ i → position_from is_mark i (drop i lines) ≡ whole → None ≡ whole
place_none lines i whole le was = sym (ap (position_from is_mark i) (drop_of_length-le lines le)) ∙ was

-- one line more was written, and the rest is still to come
pub text_on : (out after : List ℕ) (lines : List (List ℕ)) (i : ℕ) (line whole : List ℕ) → i < length lines → line ≡ get_or lines i line → after ≡ out ++ (line ++ 10 ∷ []) → out ++ text_of (drop i lines) ≡ whole → after ++ text_of (drop (i + 1) lines) ≡ whole
text_on out after lines i line whole lt is longer was =
    ap (λ t. t ++ text_of (drop (i + 1) lines)) longer ∙ (append_assoc out (line ++ 10 ∷ []) (text_of (drop (i + 1) lines))
    ∙ (ap (λ t. out ++ t) (append_assoc line (10 ∷ []) (text_of (drop (i + 1) lines))) ∙ (ap (λ ls. out ++ text_of ls) (sym (parted lines i line lt is)) ∙ was)))
