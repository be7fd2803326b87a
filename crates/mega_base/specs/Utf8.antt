-- Texts in UTF-8 (RFC 3629), read byte by byte: a byte stands only where some character that fits into the rest of
-- the text begins so.
use Rattle.std.specs.Prelude.{◌≡◌, ℕ, zero, suc, ◌+◌, ◌-◌, ◌*◌, ◌/◌, ◌%◌, ◌^◌, ◌≤◌, Bool, ◌&&◌, ◌||◌, ◌==◌, min, nat_le, nat_lt, if◌then◌else◌, List, [], ◌∷◌, ◌++◌, length, Ok, IsUtf8}
use Rattle.std.specs.List.{flat_map}
use Rattle.std.specs.Char.{encode_utf8, len_utf8}
use Rattle.std.specs.Str.{continuation_len, lead_bits}
use Rattle.mega_base.specs.Reading.{Place, Read, ◌>>=◌, byte_in, byte_where, number_in}
use Rattle.mega_base.specs.Codec.{HasLen}

-- the least and the greatest character that begins with the byte b and has the length that b tells; 0xED begins
-- those below the surrogates
abbrev pub least_char : ℕ → ℕ
least_char b = if nat_lt b 128 then 0 else (if nat_lt b 224 then 128 else (if nat_lt b 240 then 2048 else 65536))

abbrev pub greatest_char : ℕ → ℕ
greatest_char b = if nat_lt b 128 then 127 else (if nat_lt b 224 then 2047 else (if nat_lt b 240 then (if b == 237 then 55295 else 65535) else 1114111))

-- b begins a character of which at most room bytes follow b
abbrev pub is_lead : ℕ → ℕ → Bool
is_lead room b = (nat_lt b 128 || (nat_le 194 b && nat_le b 244)) && nat_le (continuation_len b) room

-- the last k bytes of a character from low to high whose first bytes hold the value top
unfoldable pub tail_in : ℕ → ℕ → ℕ → ℕ → Place → Read ℕ
tail_in zero top low high p = Ok (top, p)
tail_in (suc k) top low high p =
    byte_in (128 + min 63 (low / 64 ^ k - 64 * top)) (128 + min 63 (high / 64 ^ k - 64 * top)) p >>= λ b.
    tail_in k (64 * top + (b.0 - 128)) low high b.1

-- a character of at most room + 1 bytes
unfoldable pub char_at : ℕ → Place → Read ℕ
char_at room p =
    byte_where (is_lead room) p >>= λ b.
    tail_in (continuation_len b.0) (lead_bits b.0) (least_char b.0) (greatest_char b.0) b.1

-- the characters of n bytes, at most fuel of them
unfoldable pub chars_of : ℕ → ℕ → Place → Read (List ℕ)
chars_of zero n p = Ok ([], p)
chars_of (suc fuel) n p = if n == 0 then Ok ([], p) else
    char_at (n - 1) p >>= λ c.
    chars_of fuel (n - len_utf8 c.0) c.1 >>= λ cs.
    Ok (c.0 ∷ cs.0, cs.1)

-- a text of n bytes
unfoldable pub text_of_len : ℕ → Place → Read (List ℕ)
text_of_len n p =
    chars_of n n p >>= λ cs.
    Ok (flat_map encode_utf8 cs.0, cs.1)

-- a length of four bytes, from low to high, and a text of that length
unfoldable pub text_in : ℕ → ℕ → Place → Read (List ℕ)
text_in low high p =
    number_in 4 low high p >>= λ n.
    text_of_len n.0 n.1

-- from low to high bytes of UTF-8
abbrev pub IsTextIn : ℕ → ℕ → List ℕ → Type 0
IsTextIn low high bytes = IsUtf8 bytes × HasLen low high bytes

-- at most 65,536 bytes of UTF-8
abbrev pub whole_text_at : Place → Read (List ℕ)
whole_text_at p = text_in 0 65536 p

abbrev pub IsWholeText : List ℕ → Type 0
IsWholeText bytes = IsTextIn 0 65536 bytes
