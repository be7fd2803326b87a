-- Decimal digits, one more at a time.
use Rattle.std.proofs.Common.{◌≡◌, ℕ, ◌+◌, ◌<◌, List, ◌∷◌, length, drop, get_or, sym, ap, ◌∙◌}
use Rattle.std.specs.Prelude.{Option, Some, None, option_and_then}
use Rattle.std.proofs.lemmas.List.{drop_more}
use Rattle.picture.specs.Windows.{with_digit, digits_on}

parted : (digits : List ℕ) (i number digit : ℕ) → i < length digits → digit ≡ get_or digits i digit → digits_on number (drop i digits) ≡ option_and_then (λ n. digits_on n (drop (i + 1) digits)) (with_digit number digit)
parted digits i number digit lt is = ap (digits_on number) (drop_more digits i digit lt ∙ ap (λ x. x ∷ drop (i + 1) digits) (sym is))

pub digit_on : (digits : List ℕ) (i number more digit : ℕ) (whole : Option ℕ) → i < length digits → digit ≡ get_or digits i digit → Some more ≡ with_digit number digit → digits_on number (drop i digits) ≡ whole → digits_on more (drop (i + 1) digits) ≡ whole
digit_on digits i number more digit whole lt is some was =
    ap (option_and_then (λ n. digits_on n (drop (i + 1) digits))) some ∙ (sym (parted digits i number digit lt is) ∙ was)

pub digit_none : (digits : List ℕ) (i number digit : ℕ) (whole : Option ℕ) → i < length digits → digit ≡ get_or digits i digit → None ≡ with_digit number digit → digits_on number (drop i digits) ≡ whole → None ≡ whole
digit_none digits i number digit whole lt is none was =
    ap (option_and_then (λ n. digits_on n (drop (i + 1) digits))) none ∙ (sym (parted digits i number digit lt is) ∙ was)
