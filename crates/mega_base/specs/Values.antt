-- The formats of values and rows.
use Rattle.std.specs.Prelude.{◌≡◌, ℕ, zero, suc, ◌+◌, ◌-◌, ◌≤◌, ◌==◌, if◌then◌else◌, Bool, true, false, ℤ, pos, negsuc, nat_lt, List, [], ◌∷◌, ◌++◌, length, Ok, ⊤, FitsSigned}
use Rattle.std.specs.List.{flat_map}
use Rattle.std.specs.Int.{cast_signed, cast_unsigned, w32, w64}
use Rattle.mega_base.specs.Reading.{Place, Read, ◌>>=◌, byte_in, list_in}
use Rattle.mega_base.specs.Codec.{IsBetween, one_byte, IsList, list_text, bytes_text}
use Rattle.mega_base.specs.Names.{u8_at, u32_at, u32_text, u64_at, u64_text, string_at, IsString}
use Rattle.mega_base.specs.Utf8.{whole_text_at, IsWholeText}
use Rattle.mega_base.specs.declared.values.Value.{Value}
use Rattle.mega_base.specs.declared.values.Value.TheVariants.{Int32, Int64, Bool as Truth, Str, Raw}
use Rattle.mega_base.specs.declared.values.Cell.{Cell}
use Rattle.mega_base.specs.declared.values.Row.{Row}

-- a byte 0 or 1
abbrev pub bit_of : Bool → ℕ
bit_of false = 0
bit_of true = 1

-- the value of a kind, a byte from 1 to 5
unfoldable pub value_of : ℕ → Place → Read Value
value_of kind p =
    if kind == 1 then (u32_at p >>= λ n. Ok (Int32 (cast_signed w32 n.0), n.1))
    else if kind == 2 then (u64_at p >>= λ n. Ok (Int64 (cast_signed w64 n.0), n.1))
    else if kind == 3 then (byte_in 0 1 p >>= λ b. Ok (Truth (b.0 == 1), b.1))
    else if kind == 4 then (whole_text_at p >>= λ t. Ok (Str t.0, t.1))
    else (string_at p >>= λ b. Ok (Raw b.0, b.1))

unfoldable pub value_at : Place → Read Value
value_at p =
    byte_in 1 5 p >>= λ kind.
    value_of kind.0 kind.1

abbrev pub kind_of : Value → ℕ
kind_of (Int32 z) = 1
kind_of (Int64 z) = 2
kind_of (Truth b) = 3
kind_of (Str t) = 4
kind_of (Raw b) = 5

-- four or eight bytes of two's complement, a byte 0 or 1, a text, or a string of bytes
abbrev pub value_body : Value → List ℕ
value_body (Int32 z) = u32_text (cast_unsigned w32 z)
value_body (Int64 z) = u64_text (cast_unsigned w64 z)
value_body (Truth b) = one_byte (bit_of b)
value_body (Str t) = bytes_text t
value_body (Raw b) = bytes_text b

abbrev pub value_text : Value → List ℕ
value_text v = one_byte (kind_of v) ++ value_body v

abbrev pub IsValue : Value → Type 0
IsValue (Int32 z) = FitsSigned w32 z
IsValue (Int64 z) = FitsSigned w64 z
IsValue (Truth b) = ⊤
IsValue (Str t) = IsWholeText t
IsValue (Raw b) = IsString b

-- a property's number from low to high, and its values, at least one
unfoldable pub cell_in : ℕ → ℕ → Place → Read Cell
cell_in low high p =
    byte_in low high p >>= λ property.
    list_in 1 4294967295 value_at property.1 >>= λ values.
    Ok (record { property = property.0; values = values.0 }, values.1)

abbrev pub cell_text : Cell → List ℕ
cell_text cell = one_byte cell.property ++ list_text value_text cell.values

abbrev pub IsCellIn : ℕ → ℕ → Cell → Type 0
IsCellIn low high cell = IsBetween low high cell.property × IsList 1 4294967295 IsValue cell.values

-- cells whose numbers rise from low on: each leaves numbers for those that follow
unfoldable pub cells_at : ℕ → ℕ → Place → Read (List Cell)
cells_at zero low p = Ok ([], p)
cells_at (suc k) low p =
    cell_in low (255 - k) p >>= λ cell.
    cells_at k (cell.0.property + 1) cell.1 >>= λ cells.
    Ok (cell.0 ∷ cells.0, cells.1)

abbrev pub Ascends : ℕ → List Cell → Type 0
Ascends low [] = Unit {0}
Ascends low (cell ∷ cells) = IsCellIn low 255 cell × Ascends (cell.property + 1) cells

-- a count of one byte, and the cells
unfoldable pub row_at : Place → Read Row
row_at p =
    u8_at p >>= λ count.
    cells_at count.0 0 count.1 >>= λ cells.
    Ok (record { cells = cells.0 }, cells.1)

abbrev pub row_text : Row → List ℕ
row_text row = one_byte (length row.cells) ++ flat_map cell_text row.cells

pub record IsRow (row : Row) : Type 0 where
  pub few : length row.cells ≤ 255
  pub rising : Ascends 0 row.cells

-- the number is in the range of half numbers to either side
abbrev pub is_in_range : ℕ → ℤ → Bool
is_in_range half (pos n) = nat_lt n half
is_in_range half (negsuc n) = nat_lt n half
