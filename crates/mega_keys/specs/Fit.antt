-- Which values stand in which places.
use Rattle.std.specs.Prelude.{◌≡◌, ℕ, ◌+◌, ◌<◌, ◌≤◌, ◌^◌, ℤ, pos, negsuc, Bool, true, false, if◌then◌else◌, List, [], ◌∷◌, ◌++◌, length, Option, Some, None, IsUtf8}
use Rattle.mega_base.specs.declared.values.Value.{Value}
use Rattle.mega_base.specs.declared.values.Value.TheVariants.{Int32, Int64, Bool as Truth, Str, Raw}
use Rattle.mega_base.specs.declared.values.Kind.{Kind}
use Rattle.mega_base.specs.declared.values.Kind.TheVariants as kinds
use Rattle.mega_base.specs.declared.values.Shape.{Shape}
use Rattle.mega_keys.specs.Spelling.{row_bytes}

-- the value is of the kind
abbrev pub has_kind : Kind → Value → Bool
has_kind kinds.Int32 (Int32 z) = true
has_kind kinds.Int64 (Int64 z) = true
has_kind kinds.Bool (Truth b) = true
has_kind kinds.Str (Str t) = true
has_kind kinds.Raw (Raw b) = true
has_kind _ _ = false

-- the first value, counted from i, that is of another kind than its place or has no place
abbrev pub misplaced : List Kind → List Value → ℕ → Option ℕ
misplaced ks [] i = None
misplaced [] (v ∷ vs) i = Some i
misplaced (k ∷ ks) (v ∷ vs) i = if has_kind k v then misplaced ks vs (i + 1) else Some i

-- the kinds of a row key's values
abbrev pub key_kinds : Shape → List Kind
key_kinds shape = shape.root_kinds ++ shape.rest_kinds

-- the signed number is in the range of half numbers to either side
abbrev pub IsWithin : ℕ → ℤ → Type 0
IsWithin half (pos n) = n < half
IsWithin half (negsuc n) = n < half

-- a value that the program can hold
abbrev pub IsValue : Value → Type 0
IsValue (Int32 z) = IsWithin (2 ^ 31) z
IsValue (Int64 z) = IsWithin (2 ^ 63) z
IsValue (Str text) = IsUtf8 text
IsValue _ = Unit {0}

-- such values, each of the kind of its place, and one for each place
abbrev pub StandIn : List Kind → List Value → Type 0
StandIn [] [] = Unit {0}
StandIn [] (v ∷ vs) = ⊥
StandIn (k ∷ ks) [] = ⊥
StandIn (k ∷ ks) (v ∷ vs) = (has_kind k v ≡ true) × IsValue v × StandIn ks vs

-- values that the program can hold
abbrev pub AreValues : List Value → Type 0
AreValues [] = Unit {0}
AreValues (v ∷ vs) = IsValue v × AreValues vs

-- the bytes are the key of the row with these key values
pub record IsKey (shape : Shape) (bytes : List ℕ) (values : List Value) : Type 0 where
  pub stand : StandIn (key_kinds shape) values
  pub spelled : bytes ≡ row_bytes shape values
  pub short : length bytes ≤ 1024
