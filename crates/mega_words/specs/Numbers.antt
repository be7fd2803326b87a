-- A number in a word.
use Rattle.std.specs.Prelude.{ℕ, ◌+◌, ◌*◌, ◌-◌, ◌&&◌, ◌||◌, ◌==◌, nat_le, nat_lt, if◌then◌else◌, List, [], ◌∷◌, length, Option, Some, None, option_and_then}

-- the number with one decimal digit more, where that is at most so much
abbrev pub with_digit : ℕ → ℕ → ℕ → Option ℕ
with_digit most number byte =
    if nat_le 48 byte && nat_le byte 57 && nat_le (number * 10 + (byte - 48)) most then Some (number * 10 + (byte - 48)) else None

-- the number that decimal digits behind others spell; a digit more never makes it less
abbrev pub digits_on : ℕ → ℕ → List ℕ → Option ℕ
digits_on most number [] = Some number
digits_on most number (byte ∷ bytes) = option_and_then (λ n. digits_on most n bytes) (with_digit most number byte)

abbrev pub at_least : ℕ → Option ℕ → Option ℕ
at_least least None = None
at_least least (Some number) = if nat_le least number then Some number else None

-- the number that 1 to 20 decimal digits spell, within a range
unfoldable pub number_in : ℕ → ℕ → List ℕ → Option ℕ
number_in least most digits = if length digits == 0 || nat_lt 20 (length digits) then None else at_least least (digits_on most 0 digits)
