-- How a text is read: from a place in it to a value and the place after it, or to the offset of a fault.
use Rattle.std.specs.Prelude.{◌≡◌, ℕ, zero, suc, ◌+◌, ◌-◌, ◌*◌, ◌/◌, ◌^◌, ◌<◌, ◌≤◌, Bool, true, false, ◌&&◌, ◌==◌, min, nat_le, nat_lt, if◌then◌else◌, List, [], ◌∷◌, ◌++◌, length, take, drop, Result, Ok, Err, Option, Some, None}

-- an offset from the start of the text, and the bytes from there on
pub record Place : Type 0 where
  pub at : ℕ
  pub left : List ℕ

abbrev pub place : ℕ → List ℕ → Place
place at left = record { at = at; left = left }

-- the offset at which the text ends
abbrev pub end_of : Place → ℕ
end_of p = p.at + length p.left

-- a value and the place after it, or the offset of the first byte that cannot stand there
abbrev pub Read : Type 0 → Type 0
Read A = Result (A × Place) ℕ

infixl 10 ◌>>=◌
abbrev pub ◌>>=◌ : {A B E : Type 0} → Result A E → (A → Result B E) → Result B E
Ok x >>= f = f x
Err e >>= f = Err e

-- a byte from low to high at the front of left, which begins at the offset at
abbrev pub first_in : ℕ → ℕ → ℕ → List ℕ → Read ℕ
first_in low high at [] = Err at
first_in low high at (b ∷ rest) = if nat_le low b && nat_le b high then Ok (b, place (at + 1) rest) else Err at

-- a byte that passes the test
abbrev pub first_where : (ℕ → Bool) → ℕ → List ℕ → Read ℕ
first_where test at [] = Err at
first_where test at (b ∷ rest) = if test b then Ok (b, place (at + 1) rest) else Err at

unfoldable pub byte_where : (ℕ → Bool) → Place → Read ℕ
byte_where test p = first_where test p.at p.left

-- one byte from low to high
unfoldable pub byte_in : ℕ → ℕ → Place → Read ℕ
byte_in low high p = first_in low high p.at p.left

-- a number from low to high whose first bytes have the value top, and whose last k bytes are still to come,
-- the highest first. Each byte has to leave a number from low to high within reach.
unfoldable pub digits_in : ℕ → ℕ → ℕ → ℕ → Place → Read ℕ
digits_in zero top low high p = Ok (top, p)
digits_in (suc k) top low high p =
    byte_in (min 255 (low / 256 ^ k - 256 * top)) (min 255 (high / 256 ^ k - 256 * top)) p >>= λ b.
    digits_in k (256 * top + b.0) low high b.1

-- a number of k bytes, the highest first, from low to high
abbrev pub number_in : ℕ → ℕ → ℕ → Place → Read ℕ
number_in k low high p = digits_in k 0 low high p

-- n bytes
unfoldable pub bytes_of_len : ℕ → Place → Read (List ℕ)
bytes_of_len n p = if nat_le n (length p.left) then Ok (take n p.left, place (p.at + n) (drop n p.left)) else Err (end_of p)

-- a length of four bytes, from low to high, and that many bytes
unfoldable pub bytes_in : ℕ → ℕ → Place → Read (List ℕ)
bytes_in low high p =
    number_in 4 low high p >>= λ n.
    bytes_of_len n.0 n.1

-- n items, one after another
unfoldable pub items_at : {A : Type 0} → (Place → Read A) → ℕ → Place → Read (List A)
items_at read zero p = Ok ([], p)
items_at read (suc n) p =
    read p >>= λ x.
    items_at read n x.1 >>= λ xs.
    Ok (x.0 ∷ xs.0, xs.1)

-- a count of four bytes, from low to high, and that many items
unfoldable pub list_in : {A : Type 0} → ℕ → ℕ → (Place → Read A) → Place → Read (List A)
list_in low high read p =
    number_in 4 low high p >>= λ n.
    items_at read n.0 n.1

-- a byte 0, or a byte 1 and a value
unfoldable pub option_at : {A : Type 0} → (Place → Read A) → Place → Read (Option A)
option_at read p =
    byte_in 0 1 p >>= λ b.
    if b.0 == 0 then Ok (None, b.1) else read b.1 >>= λ x. Ok (Some x.0, x.1)

-- a text of n bytes that read takes whole
unfoldable pub within : {A : Type 0} → (Place → Read A) → ℕ → Place → Read A
within read n p =
    read (place p.at (take n p.left)) >>= λ x.
    if x.1.at == p.at + n then Ok (x.0, place x.1.at (drop n p.left)) else Err x.1.at

-- a length of at most limit, in four bytes, and a text of that length that read takes whole
unfoldable pub nested_at : {A : Type 0} → ℕ → (Place → Read A) → Place → Read A
nested_at limit read p =
    number_in 4 0 limit p >>= λ n.
    within read n.0 n.1

-- a whole text, which has no bytes left over
unfoldable pub whole_of : {A : Type 0} → (Place → Read A) → List ℕ → Result A ℕ
whole_of read bytes =
    read (place 0 bytes) >>= λ x.
    if length x.1.left == 0 then Ok x.0 else Err x.1.at
