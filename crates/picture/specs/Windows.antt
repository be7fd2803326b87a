-- The words of the program, and the lines of a transcript that they ask for.
use Rattle.std.specs.Prelude.{ℕ, ◌+◌, ◌*◌, ◌-◌, ◌==◌, ◌&&◌, nat_le, nat_eq, if◌then◌else◌, codes, List, [], ◌∷◌, Option, Some, None, option_and_then}
use Rattle.std.specs.Cmp.Lexicographic.{pointwise}
use Rattle.picture.specs.declared.words.Window.{Window}

-- the greatest number of a line
abbrev pub most : ℕ
most = 1000000000000

abbrev pub with_digit : ℕ → ℕ → Option ℕ
with_digit number byte = if nat_le 48 byte && nat_le byte 57 && nat_le (number * 10 + (byte - 48)) most then Some (number * 10 + (byte - 48)) else None

abbrev pub digits_on : ℕ → List ℕ → Option ℕ
digits_on number [] = Some number
digits_on number (byte ∷ bytes) = option_and_then (λ n. digits_on n bytes) (with_digit number byte)

abbrev pub positive : Option ℕ → Option ℕ
positive None = None
positive (Some number) = if number == 0 then None else Some number

-- a number of decimal digits from 1 to 10^12
unfoldable pub number_of : List ℕ → Option ℕ
number_of digits = positive (digits_on 0 digits)

abbrev pub window_to : ℕ → ℕ → Option Window
window_to from to = if nat_le from to then Some (record { from = from; to = to }) else None

abbrev pub window_from : Option ℕ → Option ℕ → Option Window
window_from (Some from) (Some to) = window_to from to
window_from _ _ = None

-- all lines where there are no words, those of `--from A --to B`, and none for other words
abbrev pub window_of : List (List ℕ) → Option Window
window_of [] = Some (record { from = 1; to = 18446744073709551615 })
window_of (from ∷ first ∷ to ∷ last ∷ []) =
    if pointwise nat_eq from (codes "--from") && pointwise nat_eq to (codes "--to") then window_from (number_of first) (number_of last) else None
window_of _ = None
