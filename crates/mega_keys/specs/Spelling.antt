-- How values and keys are spelled in bytes, so that the order of keys is the order of values.
use Rattle.std.specs.Prelude.{ℕ, ◌+◌, ◌-◌, ◌^◌, ℤ, pos, negsuc, Bool, true, false, ◌==◌, if◌then◌else◌, List, [], ◌∷◌, ◌++◌, length, take, drop, suc, slice_index}
use Rattle.std.specs.Int.{w32, w64, to_be_bytes}
use Rattle.std.specs.List.{flat_map}
use Rattle.sha2.specs.Sha256.{sha256}
use Rattle.mega_base.specs.declared.values.Value.{Value}
use Rattle.mega_base.specs.declared.values.Value.TheVariants.{Int32, Int64, Bool as Truth, Str, Raw}
use Rattle.mega_base.specs.declared.values.Shape.{Shape}

-- the number raised by half of its range, so that negative numbers come first
abbrev pub raised : ℕ → ℤ → ℕ
raised half (pos n) = half + n
raised half (negsuc n) = half - suc n

-- a zero byte is told apart from the end by the byte after it
abbrev pub escape : ℕ → List ℕ
escape b = if b == 0 then 0 ∷ 255 ∷ [] else b ∷ []

abbrev pub escaped : List ℕ → List ℕ
escaped bytes = flat_map escape bytes ++ 0 ∷ 1 ∷ []

abbrev pub bit_of : Bool → ℕ
bit_of true = 1
bit_of false = 0

-- the bytes of a value in a key
abbrev pub spell : Value → List ℕ
spell (Int32 z) = to_be_bytes w32 (raised (2 ^ 31) z)
spell (Int64 z) = to_be_bytes w64 (raised (2 ^ 63) z)
spell (Truth b) = bit_of b ∷ []
spell (Str text) = escaped text
spell (Raw bytes) = escaped bytes

-- the bytes of a value that scatter its group: text and bytes stand as they are
abbrev pub plain : Value → List ℕ
plain (Str text) = text
plain (Raw bytes) = bytes
plain value = spell value

abbrev pub spell_all : List Value → List ℕ
spell_all values = flat_map spell values

-- the first two bytes of the SHA-256 of the root key values
unfoldable pub scattered : List Value → List ℕ
scattered values = let digest = sha256 (flat_map plain values) in slice_index digest 0 ∷ slice_index digest 1 ∷ []

-- the two bytes that stand before the root key, where the groups are scattered
abbrev pub scatter_of : Bool → List Value → List ℕ
scatter_of true values = scattered values
scatter_of false values = []

-- the values of the root's key, and those of the rest of the key
abbrev pub root_part : Shape → List Value → List Value
root_part shape values = take (length shape.root_kinds) values

abbrev pub rest_part : Shape → List Value → List Value
rest_part shape values = drop (length shape.root_kinds) values

-- a first byte, the two that scatter, the root key values
abbrev pub head_bytes : ℕ → Bool → List Value → List ℕ
head_bytes first scatter root = first ∷ (scatter_of scatter root ++ spell_all root)

abbrev pub row_bytes : Shape → List Value → List ℕ
row_bytes shape values = head_bytes shape.space shape.scatter (root_part shape values) ++ shape.table ∷ spell_all (rest_part shape values)

abbrev pub group_bytes : Shape → List Value → List ℕ
group_bytes shape values = head_bytes shape.root shape.scatter values

abbrev pub index_bytes : ℕ → List ℕ → List Value → List Value → List ℕ
index_bytes number prefix indexed key = prefix ++ (127 + number) ∷ (spell_all indexed ++ spell_all key)
