-- How a line is read: word by word, each with the byte that ends it.
use Rattle.std.specs.Prelude.{ℕ, ◌+◌, ◌-◌, ◌*◌, ◌==◌, ◌&&◌, nat_le, if◌then◌else◌, List, [], ◌∷◌, length, take, drop, position, Option, Some, None, option_map, option_and_then, Result, Ok, Err}
use Rattle.std.specs.Result.{result_ok}
use Rattle.hex.specs.Hex.{decode_of}
use Rattle.mega_base.specs.Reading.{◌>>=◌, whole_of}
use Rattle.mega_base.specs.declared.names.NodeId.{NodeId}
use Rattle.mega_base.specs.declared.names.Position.{Position}
use Rattle.mega_base.specs.declared.names.Epoch.{Epoch}
use Rattle.mega_base.specs.declared.names.OpId.{OpId}
use Rattle.mega_base.specs.declared.names.GroupId.{GroupId}
use Rattle.mega_entry.specs.Entries.{entry_at}
use Rattle.mega_entry.specs.declared.content.Content.{Content}
use Rattle.mega_wire.specs.Messages.{message_at}
use Rattle.mega_wire.specs.declared.message.Message.{Message}

-- a value and the bytes behind its text, or how many bytes there are from the first of the word that is refused
abbrev pub Read : Type 0 → Type 0
Read A = Result (A × List ℕ) ℕ

-- a field of a line: given the byte that ends it and the bytes that are left
abbrev pub Field : Type 0 → Type 0
Field A = ℕ → List ℕ → Read A

-- the bytes before the first that is this one, and those behind it
abbrev pub cut_at : List ℕ → ℕ → List ℕ × List ℕ
cut_at left place = (take place left, drop (place + 1) left)

unfoldable pub until : ℕ → List ℕ → Option (List ℕ × List ℕ)
until end left = option_map (cut_at left) (position (λ b. b == end) left)

-- the value that a word was taken for, or the word is refused
abbrev pub shown : {A : Type 0} → ℕ → List ℕ → Option A → Read A
shown refused rest None = Err refused
shown refused rest (Some x) = Ok (x, rest)

abbrev pub taken : {A : Type 0} → (List ℕ → Option A) → ℕ → Option (List ℕ × List ℕ) → Read A
taken read refused None = Err refused
taken read refused (Some word) = shown refused word.1 (read word.0)

-- a word that is read whole
abbrev pub word_as : {A : Type 0} → (List ℕ → Option A) → Field A
word_as read end left = taken read (length left) (until end left)

-- the number with one digit more, up to the greatest
abbrev pub with_digit : ℕ → ℕ → ℕ → Option ℕ
with_digit most number byte =
    if nat_le 48 byte && nat_le byte 57 && nat_le (number * 10 + (byte - 48)) most then Some (number * 10 + (byte - 48)) else None

abbrev pub digits_on : ℕ → ℕ → List ℕ → Option ℕ
digits_on most number [] = Some number
digits_on most number (byte ∷ bytes) = option_and_then (λ n. digits_on most n bytes) (with_digit most number byte)

-- a number of decimal digits, up to the greatest
unfoldable pub number_of : ℕ → List ℕ → Option ℕ
number_of most [] = None
number_of most (byte ∷ bytes) = digits_on most 0 (byte ∷ bytes)

unfoldable pub number_field : ℕ → Field ℕ
number_field most = word_as (number_of most)

-- bytes in hex, of either case
unfoldable pub hex_field : Field (List ℕ)
hex_field = word_as (λ word. result_ok (decode_of word))

-- two fields with this byte between them
abbrev pub two : {A B : Type 0} → ℕ → Field A → Field B → Field (A × B)
two between first second end left =
    first between left >>= λ a.
    second end a.1 >>= λ b.
    Ok ((a.0, b.0), b.1)

-- a field's value made into another
abbrev pub made : {A B : Type 0} → (A → B) → Field A → Field B
made make field end left = field end left >>= λ a. Ok (make a.0, a.1)

abbrev pub u8_field : Field ℕ
u8_field = number_field 255

abbrev pub u32_field : Field ℕ
u32_field = number_field 4294967295

abbrev pub u64_field : Field ℕ
u64_field = number_field 18446744073709551615

unfoldable pub node_field : Field NodeId
node_field = made (λ n. record { 0 = n }) u8_field

unfoldable pub position_field : Field Position
position_field = made (λ n. record { 0 = n }) u64_field

-- start and count, with a dot between them
unfoldable pub epoch_field : Field Epoch
epoch_field = made (λ x. record { start = x.0; count = x.1 }) (two 46 u32_field u32_field)

-- node, start and number, with dots between them
unfoldable pub op_field : Field OpId
op_field = made (λ x. record { node = x.0; start = x.1.0; number = x.1.1 }) (two 46 node_field (two 46 u32_field u32_field))

unfoldable pub group_field : Field GroupId
group_field = made (λ key. record { key = key }) hex_field

-- a message in hex; one that is none is refused where its word begins
unfoldable pub message_field : Field Message
message_field end left = hex_field end left >>= λ bytes. shown (length left) bytes.1 (result_ok (whole_of message_at bytes.0))

unfoldable pub entry_field : Field Content
entry_field end left = hex_field end left >>= λ bytes. shown (length left) bytes.1 (result_ok (whole_of entry_at bytes.0))
