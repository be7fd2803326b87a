-- The group that a word names: its key in lower-case hex.
use Rattle.std.specs.Prelude.{ℕ, ◌&&◌, ◌||◌, nat_le, Bool, if◌then◌else◌, List, length, Option, None, option_map}
use Rattle.std.specs.List.{list_all}
use Rattle.std.specs.Result.{result_ok}
use Rattle.hex.specs.Hex.{decode_of}
use Rattle.mega_base.specs.declared.names.GroupId.{GroupId}

abbrev pub is_digit : ℕ → Bool
is_digit c = (nat_le 48 c && nat_le c 57) || (nat_le 97 c && nat_le c 102)

-- the bytes that digits spell, two digits a byte
abbrev pub key_in : List ℕ → Option (List ℕ)
key_in digits = if list_all is_digit digits then result_ok (decode_of digits) else None

-- a key has 1 to 1,024 bytes
abbrev pub group_in : List ℕ → Option GroupId
group_in word = if nat_le 2 (length word) && nat_le (length word) 2048 then option_map (λ key. record { key = key }) (key_in word) else None
