-- How the words of a backup's lines are read: bytes in lower-case hex, and numbers.
use Rattle.std.specs.Prelude.{ℕ, ◌+◌, ◌-◌, ◌*◌, ◌==◌, ◌&&◌, ◌||◌, nat_le, Bool, if◌then◌else◌, List, [], ◌∷◌, Option, Some, None, option_and_then}
use Rattle.std.specs.List.{list_all}
use Rattle.std.specs.Result.{result_ok}
use Rattle.hex.specs.Hex.{decode_of}

-- what follows a word at the front of a text
abbrev pub behind : List ℕ → List ℕ → Option (List ℕ)
behind [] text = Some text
behind (b ∷ word) [] = None
behind (b ∷ word) (c ∷ text) = if b == c then behind word text else None

-- a decimal digit, and one of lower-case hex
abbrev pub is_decimal : ℕ → Bool
is_decimal c = nat_le 48 c && nat_le c 57

abbrev pub is_digit : ℕ → Bool
is_digit c = is_decimal c || (nat_le 97 c && nat_le c 102)

-- the bytes that lower-case hex digits spell, two digits a byte
abbrev pub hex_in : List ℕ → Option (List ℕ)
hex_in digits = if list_all is_digit digits then result_ok (decode_of digits) else None

-- the greatest position
abbrev pub most : ℕ
most = 1000000

-- a number with one digit more
abbrev pub with_digit : ℕ → ℕ → Option ℕ
with_digit n c = if is_decimal c && nat_le (n * 10 + (c - 48)) most then Some (n * 10 + (c - 48)) else None

-- a number whose first digits have this value, up to the greatest position
abbrev pub number_on : ℕ → List ℕ → Option ℕ
number_on n [] = Some n
number_on n (c ∷ digits) = option_and_then (λ more. number_on more digits) (with_digit n c)

-- no zero stands in front of a further digit
abbrev pub number_in : List ℕ → Option ℕ
number_in [] = None
number_in (c ∷ []) = number_on 0 (c ∷ [])
number_in (c ∷ d ∷ digits) = if c == 48 then None else number_on 0 (c ∷ d ∷ digits)
