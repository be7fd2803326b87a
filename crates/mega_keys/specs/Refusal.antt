-- Where a key is refused: through which bytes it is decided, and why there.
use Rattle.std.specs.Prelude.{◌≡◌, ◌≢◌, ◌⊎◌, ℕ, ◌+◌, Bool, false, List, ◌++◌, ◌∷◌, [], length, take, slice_index}
use Rattle.std.specs.List.{flat_map}
use Rattle.std.specs.Str.{is_utf8}
use Rattle.std.specs.Str.Lossy.{utf8_valid_len}
use Rattle.mega_base.specs.declared.values.Value.{Value}
use Rattle.mega_base.specs.declared.values.Shape.{Shape}
use Rattle.mega_keys.specs.Spelling.{escape, escaped, spell_all, scattered}
use Rattle.mega_keys.specs.Fit.{IsKey}

-- no key of the shape begins with these bytes
abbrev pub BeginsNoKey : Shape → List ℕ → Type 0
BeginsNoKey shape front = (values : List Value) (tail : List ℕ) → IsKey shape (front ++ tail) values → ⊥

-- the bytes end with the one at this offset
abbrev pub EndsThere : List ℕ → ℕ → Type 0
EndsThere front at = length front ≡ at + 1

-- the bytes end with a text that is none, and its first character that is none begins at this offset
pub record EndsBadText (front : List ℕ) (at : ℕ) : Type 0 where
  pub before : List ℕ
  pub text : List ℕ
  pub spelled : front ≡ before ++ escaped text
  pub no_text : is_utf8 text ≡ false
  pub place : at ≡ length before + length (flat_map escape (take (utf8_valid_len text) text))

-- which of the two bytes is the first that is not that of the values
abbrev pub IsFirstOther : ℕ → ℕ → List Value → ℕ → Type 0
IsFirstOther first second root which =
    ((which ≡ 0) × (first ≢ slice_index (scattered root) 0))
    ⊎ ((which ≡ 1) × (first ≡ slice_index (scattered root) 0) × (second ≢ slice_index (scattered root) 1))

-- the bytes end with root key values, and the first of the two bytes before them that is not theirs stands at this offset
pub record EndsOtherRoot (front : List ℕ) (at : ℕ) : Type 0 where
  pub before : List ℕ
  pub first : ℕ
  pub second : ℕ
  pub root : List Value
  pub which : ℕ
  pub spelled : front ≡ before ++ first ∷ second ∷ spell_all root
  pub other : IsFirstOther first second root which
  pub place : at ≡ length before + which

-- why a byte cannot stand at this offset: it is decided by the bytes through it, by a text around it, or by the root key values
-- behind it
abbrev pub Because : List ℕ → ℕ → Type 0
Because front at = EndsThere front at ⊎ EndsBadText front at ⊎ EndsOtherRoot front at

-- the bytes begin with some that no key begins with, and these tell why the one at this offset cannot stand
pub record IsRefusedAt (shape : Shape) (bytes : List ℕ) (at : ℕ) : Type 0 where
  pub front : List ℕ
  pub back : List ℕ
  pub split : bytes ≡ front ++ back
  pub never : BeginsNoKey shape front
  pub because : Because front at
