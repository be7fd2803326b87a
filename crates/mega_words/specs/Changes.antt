-- The name of a change in a word.
use Rattle.std.specs.Prelude.{ℕ, ◌&&◌, ◌||◌, nat_le, Bool, if◌then◌else◌, List, length, Option, Some, None}
use Rattle.std.specs.List.{list_all}

-- an ASCII letter or digit
abbrev pub is_sign : ℕ → Bool
is_sign c = (nat_le 48 c && nat_le c 57) || ((nat_le 65 c && nat_le c 90) || (nat_le 97 c && nat_le c 122))

abbrev pub is_change : List ℕ → Bool
is_change word = nat_le 1 (length word) && (nat_le (length word) 64 && list_all is_sign word)

abbrev pub change_in : List ℕ → Option (List ℕ)
change_in word = if is_change word then Some word else None
