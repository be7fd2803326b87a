-- The texts of begins.
use Rattle.std.specs.Prelude.{◌≡◌, ℕ, ◌==◌, not, Bool, true, false, if◌then◌else◌, List, Option, Some, None, option_and_then}
use Rattle.std.specs.List.{list_all}
use Rattle.std.specs.Str.{is_utf8}
use Rattle.serde_json.specs.Data.{Data, object}
use Rattle.serde_json.specs.Read.{read}
use Rattle.serde_json.specs.Written.{has_float, compact_text}
use Rattle.mega_syntax.specs.Names.{same}
use Rattle.mega_transcript.specs.Reading.{Field, word_as}

-- the compact text of an object with no float
abbrev pub compact_of : Data → Option (List ℕ)
compact_of (object ms) = if has_float (object ms) then None else Some (compact_text (object ms))
compact_of _ = None

abbrev pub is_text : List ℕ → Option (List ℕ) → Bool
is_text text None = false
is_text text (Some compact) = same compact text

-- the JSON that a text in UTF-8 is
unfoldable pub json_of : List ℕ → Option Data
json_of text = if is_utf8 text then read text else None

-- a text in UTF-8 that is JSON, an object with no float, and the compact text of it
unfoldable pub is_request : List ℕ → Bool
is_request text = is_text text (option_and_then compact_of (json_of text))

-- it has no line feed
abbrev pub is_one_line : List ℕ → Bool
is_one_line text = list_all (λ b. not (b == 10)) text

abbrev pub request_of : List ℕ → Option (List ℕ)
request_of text = if is_request text then Some text else None

unfoldable pub request_field : Field (List ℕ)
request_field = word_as request_of

abbrev pub IsRequest : List ℕ → Type 0
IsRequest text = (is_one_line text ≡ true) × (is_request text ≡ true)
