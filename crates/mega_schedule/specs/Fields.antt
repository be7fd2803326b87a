-- What is wrong with one field of a JSON object.
use Rattle.std.specs.Prelude.{ℕ, ◌%◌, ◌==◌, ◌&&◌, ◌||◌, Bool, nat_le, nat_lt, if◌then◌else◌, List, length, Option, Some, None, is_some}
use Rattle.std.specs.List.{list_all}
use Rattle.serde_json.specs.Data.{Num, Data, Items, no_items, item}
use Rattle.serde_json.specs.Find.{as_bool, as_str, as_number, as_array, as_object, as_i64, as_u64, is_float}
use Rattle.serde_json.specs.Written.{has_float}
use Rattle.serde_json.specs.Events.{members_len}
use Rattle.mega_schedule.specs.declared.verdict.Verdict.{Verdict}
use Rattle.mega_schedule.specs.declared.verdict.Verdict.TheVariants.{Missing, Extra, WrongKind, OutOfRange, Fine}
use Rattle.mega_schedule.specs.Verdicts.{◌⊓◌}

-- what is of the right kind, and the check of it
abbrev pub of_kind : {A : Type 0} → (A → Verdict) → Option A → Verdict
of_kind check None = WrongKind
of_kind check (Some part) = check part

-- an object whose n fields are all there has a field too many where it has more members
abbrev pub at_most : ℕ → Data → Verdict
at_most n d = elim (as_object d) [ None ↦ Fine | Some ms ↦ if nat_lt n (members_len ms) then Extra else Fine ]

-- the field is there, and the check says what is wrong with it
abbrev pub required : (Data → Verdict) → Option Data → Verdict
required check None = Missing
required check (Some d) = check d

-- a field that may be absent
abbrev pub optional : (Data → Verdict) → Option Data → Verdict
optional check None = Fine
optional check (Some d) = check d

-- an object, and the check of its fields
abbrev pub in_object : (Data → Verdict) → Data → Verdict
in_object check d = if is_some (as_object d) then check d else WrongKind

abbrev pub text_check : Data → Verdict
text_check d = if is_some (as_str d) then Fine else WrongKind

-- a text that is one of some words
abbrev pub word_among : (List ℕ → Bool) → Option (List ℕ) → Verdict
word_among is_word found = of_kind (λ (s : List ℕ). if is_word s then Fine else OutOfRange) found

abbrev pub word_check : (List ℕ → Bool) → Data → Verdict
word_check is_word d = word_among is_word (as_str d)

abbrev pub within : ℕ → ℕ → Option ℕ → Verdict
within low high None = OutOfRange
within low high (Some n) = if nat_le low n && nat_le n high then Fine else OutOfRange

abbrev pub number_within : ℕ → ℕ → Option Num → Verdict
number_within low high found = of_kind (λ (n : Num). if is_float n then WrongKind else within low high (as_u64 n)) found

-- a whole number in the range
abbrev pub between : ℕ → ℕ → Data → Verdict
between low high d = number_within low high (as_number d)

-- a whole number that is an int64
abbrev pub whole_check : Data → Verdict
whole_check d = of_kind (λ (n : Num). if is_float n then WrongKind else (if is_some (as_i64 n) then Fine else OutOfRange)) (as_number d)

-- a number, a text or a truth value
abbrev pub value_check : Data → Verdict
value_check d = if is_some (as_bool d) || is_some (as_str d) then Fine else whole_check d

-- the worst of the items, and of what was found before
abbrev pub worst : (Data → Verdict) → Verdict → Items → Verdict
worst check found no_items = found
worst check found (item d ds) = worst check (found ⊓ check d) ds

-- a list, and the check of each of its items
abbrev pub each : (Data → Verdict) → Data → Verdict
each check d = of_kind (worst check Fine) (as_array d)

abbrev pub values_check : Data → Verdict
values_check d = each value_check d

-- lower-case hex digits, two for each byte
abbrev pub is_hex_digit : ℕ → Bool
is_hex_digit c = (nat_le 48 c && nat_le c 57) || (nat_le 97 c && nat_le c 102)

abbrev pub is_hex : List ℕ → Bool
is_hex s = (length s % 2 == 0) && list_all is_hex_digit s

abbrev pub hex_check : Data → Verdict
hex_check d = of_kind (λ (s : List ℕ). if is_hex s then Fine else WrongKind) (as_str d)

-- the items of a list of two
abbrev pub pair_of : Items → Option (Data × Data)
pair_of (item first (item second no_items)) = Some (first, second)
pair_of _ = None

-- a list of a table's name and a list of values
abbrev pub group_check : Data → Verdict
group_check d = of_kind (λ (ds : Items). of_kind (λ (pair : Data × Data). text_check pair.0 ⊓ values_check pair.1) (pair_of ds)) (as_array d)

-- no number that is neither an int64 nor a u64 stands anywhere
abbrev pub floats_check : Data → Verdict
floats_check d = if has_float d then WrongKind else Fine
