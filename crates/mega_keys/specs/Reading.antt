-- Reading a key from left to right. A fault is told by how many bytes are left from it on.
use Rattle.std.specs.Prelude.{◌≡◌, ℕ, zero, suc, ◌-◌, ◌^◌, ℤ, pos, negsuc, Bool, true, false, List, [], ◌∷◌, ◌++◌, length, take, drop, Option, Some, None, Result, Ok, Err, nat_lt, ◌==◌, if◌then◌else◌, slice_index}
use Rattle.std.specs.Int.{Width, w32, w64, byte_len, from_be_bytes}
use Rattle.std.specs.List.{flat_map}
use Rattle.std.specs.Str.{is_utf8}
use Rattle.std.specs.Str.Lossy.{utf8_valid_len}
use Rattle.mega_base.specs.declared.values.Value.{Value}
use Rattle.mega_base.specs.declared.values.Value.TheVariants.{Int32, Int64, Bool as Truth, Str, Raw}
use Rattle.mega_base.specs.declared.values.Kind.{Kind}
use Rattle.mega_base.specs.declared.values.Kind.TheVariants as kinds
use Rattle.mega_base.specs.declared.values.Shape.{Shape}
pub use Rattle.mega_base.specs.Reading.{◌>>=◌}
use Rattle.mega_keys.specs.declared.fault.KeyFault.{KeyFault}
use Rattle.mega_keys.specs.declared.fault.KeyFault.TheVariants.{NotKey}
use Rattle.mega_keys.specs.declared.read.Stop.{Stop}
use Rattle.mega_keys.specs.declared.read.Stop.TheVariants.{Left, Refused}
use Rattle.mega_keys.specs.Spelling.{escape, scattered}

-- a value and the bytes after it, or how many bytes are left at the fault
abbrev pub Read : Type 0 → Type 0
Read A = Result (A × List ℕ) ℕ

-- a reader that stopped so stopped where reading does
abbrev pub Fails : {A : Type 0} → Stop → Result A ℕ → Type 0
Fails Refused read = Unit {0}
Fails (Left n) read = read ≡ Err n

-- what was returned is what reading gives, and the reader stands behind it
abbrev pub Reads : {A : Type 0} → Result A Stop → List ℕ → Read A → Type 0
Reads (Ok x) new read = read ≡ Ok (x, new)
Reads (Err stop) new read = Fails stop read

-- the same where there is no value
abbrev pub Passes : Result (Unit {0}) Stop → List ℕ → Result (List ℕ) ℕ → Type 0
Passes (Ok _) new read = read ≡ Ok new
Passes (Err stop) new read = Fails stop read

-- the same of a function that returns the bytes after the value
abbrev pub ReadsBy : {X A : Type 0} → (X → A) → Result X Stop → Result A ℕ → Type 0
ReadsBy view (Ok x) read = read ≡ Ok (view x)
ReadsBy view (Err stop) read = Fails stop read

abbrev pub number_at : Width → List ℕ → Read ℕ
number_at w bytes = if nat_lt (length bytes) (byte_len w) then Err 0 else Ok (from_be_bytes w (take (byte_len w) bytes), drop (byte_len w) bytes)

-- the number that was raised by half of its range
abbrev pub lowered : ℕ → ℕ → ℤ
lowered half n = if nat_lt n half then negsuc (half - suc n) else pos (n - half)

unfoldable pub int32_at : List ℕ → Read Value
int32_at bytes = do
  n ← number_at w32 bytes
  Ok (Int32 (lowered (2 ^ 31) n.0), n.1)

unfoldable pub int64_at : List ℕ → Read Value
int64_at bytes = do
  n ← number_at w64 bytes
  Ok (Int64 (lowered (2 ^ 63) n.0), n.1)

unfoldable pub truth_at : List ℕ → Read Value
truth_at [] = Err 0
truth_at (b ∷ rest) = if b == 0 then Ok (Truth false, rest) else (if b == 1 then Ok (Truth true, rest) else Err (suc (length rest)))

-- the items of front, before those that are read
abbrev pub with_front : {A : Type 0} → List A → Read (List A) → Read (List A)
with_front front (Ok x) = Ok (front ++ x.0, x.1)
with_front front (Err n) = Err n

-- bytes up to their end, each escape undone
unfoldable pub unescaped : List ℕ → Read (List ℕ)
unescaped (zero ∷ c ∷ rest) = if c == 255 then with_front (0 ∷ []) (unescaped rest) else (if c == 1 then Ok ([], rest) else Err (suc (length rest)))
unescaped (suc b ∷ rest) = with_front (suc b ∷ []) (unescaped rest)
unescaped _ = Err 0

-- one byte of them, or their end
unfoldable pub unit_at : List ℕ → Read (Option ℕ)
unit_at [] = Err 0
unit_at (zero ∷ []) = Err 0
unit_at (zero ∷ c ∷ rest) = if c == 255 then Ok (Some 0, rest) else (if c == 1 then Ok (None, rest) else Err (suc (length rest)))
unit_at (suc b ∷ rest) = Ok (Some (suc b), rest)

unfoldable pub raw_at : List ℕ → Read Value
raw_at bytes = do
  found ← unescaped bytes
  Ok (Raw found.0, found.1)

-- text is refused at the first character that is none; n bytes are left from its spelling on
unfoldable pub text_of : List ℕ → ℕ → Result Value ℕ
text_of found n = if is_utf8 found then Ok (Str found) else Err (n - length (flat_map escape (take (utf8_valid_len found) found)))

unfoldable pub text_at : List ℕ → Read Value
text_at bytes = do
  found ← unescaped bytes
  value ← text_of found.0 (length bytes)
  Ok (value, found.1)

abbrev pub value_at : Kind → List ℕ → Read Value
value_at kinds.Int32 bytes = int32_at bytes
value_at kinds.Int64 bytes = int64_at bytes
value_at kinds.Bool bytes = truth_at bytes
value_at kinds.Str bytes = text_at bytes
value_at kinds.Raw bytes = raw_at bytes

unfoldable pub values_at : List Kind → List ℕ → Read (List Value)
values_at [] bytes = Ok ([], bytes)
values_at (k ∷ ks) bytes = do
  first ← value_at k bytes
  others ← values_at ks first.1
  Ok (first.0 ∷ others.0, others.1)

-- this byte
unfoldable pub byte_at : ℕ → List ℕ → Result (List ℕ) ℕ
byte_at b [] = Err 0
byte_at b (c ∷ rest) = if c == b then Ok rest else Err (suc (length rest))

-- the two bytes that scatter, which are told to be right once the root key values are read
unfoldable pub marks_at : List ℕ → Read (List ℕ)
marks_at (a ∷ b ∷ rest) = Ok (a ∷ b ∷ [], rest)
marks_at _ = Err 0

-- n bytes are left from the two on
unfoldable pub agree : List ℕ → List ℕ → ℕ → Result (Unit {0}) ℕ
agree marks right n =
    if slice_index marks 0 == slice_index right 0 then (if slice_index marks 1 == slice_index right 1 then Ok tt else Err (n - 1)) else Err n

unfoldable pub root_at : Bool → List Kind → List ℕ → Read (List Value)
root_at false kinds bytes = values_at kinds bytes
root_at true kinds bytes = do
  marks ← marks_at bytes
  root ← values_at kinds marks.1
  right ← agree marks.0 (scattered root.0) (length bytes)
  Ok root

unfoldable pub key_front_at : Shape → List ℕ → Read (List Value)
key_front_at shape bytes = do
  head ← byte_at shape.space bytes
  root ← root_at shape.scatter shape.root_kinds head
  table ← byte_at shape.table root.1
  rest ← values_at shape.rest_kinds table
  Ok (root.0 ++ rest.0, rest.1)

-- a key and nothing behind it
unfoldable pub key_at : Shape → List ℕ → Result (List Value) ℕ
key_at shape bytes = do
  key ← key_front_at shape bytes
  if length key.1 == 0 then Ok key.0 else Err (length key.1)

-- bytes behind the 1,024th cannot stand
abbrev pub answer_of : List ℕ → Result (List Value) ℕ → Result (List Value) KeyFault
answer_of bytes (Err left) = Err (NotKey (length (take 1024 bytes) - left))
answer_of bytes (Ok values) = if nat_lt 1024 (length bytes) then Err (NotKey 1024) else Ok values

abbrev pub read_key_of : Shape → List ℕ → Result (List Value) KeyFault
read_key_of shape bytes = answer_of bytes (key_at shape (take 1024 bytes))
