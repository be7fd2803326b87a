-- How a text stands in a page: no byte of it is markup, and each character is one that a page may have.
use Rattle.std.specs.Prelude.{ℕ, zero, suc, ◌-◌, ◌==◌, ◌&&◌, nat_lt, nat_le, Bool, if◌then◌else◌, List, [], ◌∷◌, ◌++◌, length, take, slice_index, codes}

-- behind these two bytes the byte ends U+FFFE or U+FFFF, which are no characters
abbrev pub is_no_character : ℕ → ℕ → ℕ → Bool
is_no_character before last byte = before == 239 && (last == 191 && nat_le 190 byte)

-- a byte behind two others: an entity where it would be markup, a blank for a control, and what ends U+FFFD for no character
unfoldable pub escaped : ℕ → ℕ → ℕ → List ℕ
escaped before last byte =
    if byte == 60 then codes "&lt;"
    else (if byte == 62 then codes "&gt;"
    else (if byte == 38 then codes "&amp;"
    else (if byte == 34 then codes "&quot;"
    else (if byte == 39 then codes "&#39;"
    else (if nat_lt byte 32 then 32 ∷ []
    else (if is_no_character before last byte then 189 ∷ [] else byte ∷ []))))))

-- the bytes of a text behind two others
abbrev pub escape_behind : ℕ → ℕ → List ℕ → List ℕ
escape_behind before last [] = []
escape_behind before last (byte ∷ bytes) = escaped before last byte ++ escape_behind last byte bytes

abbrev pub escape : List ℕ → List ℕ
escape text = escape_behind 0 0 text

-- how many bytes of a page a byte takes, at most
unfoldable pub width : ℕ → ℕ
width byte =
    if byte == 60 then 4
    else (if byte == 62 then 4
    else (if byte == 38 then 5
    else (if byte == 39 then 5
    else (if byte == 34 then 6 else 1))))

-- how many bytes of a text, from its first on, fit into so many of a page
abbrev pub fitting : ℕ → List ℕ → ℕ
fitting room [] = 0
fitting room (byte ∷ bytes) = if nat_lt room (width byte) then 0 else suc (fitting (room - width byte) bytes)

-- the byte goes on with a character
abbrev pub goes_on : ℕ → Bool
goes_on byte = nat_le 128 byte && nat_lt byte 192

-- the last place, up to this one, at which a character begins
abbrev pub cut_at : List ℕ → ℕ → ℕ
cut_at text zero = 0
cut_at text (suc at) = if goes_on (slice_index text (suc at)) then cut_at text at else suc at

-- the text, or where it has more bytes than there is room for, its front and three dots
unfoldable pub shortened : ℕ → List ℕ → List ℕ
shortened most text =
    if nat_le (length text) most then escape text else escape (take (cut_at text most) text) ++ codes "..."

-- the text, or where it would take more bytes of a page than there is room for, its front and three dots
unfoldable pub fitted : ℕ → List ℕ → List ℕ
fitted room text = shortened (fitting room text) text
