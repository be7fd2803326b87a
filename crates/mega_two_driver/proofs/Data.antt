-- What a text is as JSON.
use Rattle.std.proofs.Common.{◌≡◌, ℕ, List, Bool, true, false, Option, Some, None, refl}
use Rattle.std.proofs.lemmas.Str.{is_utf8-from_IsUtf8, IsUtf8-from_is_utf8}
use Rattle.std.specs.Str.{is_utf8, IsUtf8}
use Rattle.serde_json.specs.Data.{Data}
use Rattle.serde_json.specs.Read.{read as read_json}
use Rattle.mega_two_driver.specs.Rows.{data_in}

pub is_data : (text : List ℕ) (d : Data) → IsUtf8 text → read_json text ≡ Some d → Some d ≡ data_in text
is_data text d is read = rw (is_utf8-from_IsUtf8 text is, read) refl

none_by : (text : List ℕ) (b : Bool) → is_utf8 text ≡ b → (IsUtf8 text → read_json text ≡ None) → None ≡ data_in text
none_by text true is none = rw (is, none (IsUtf8-from_is_utf8 text is)) refl
none_by text false is none = rw is refl

pub no_data : (text : List ℕ) → (IsUtf8 text → read_json text ≡ None) → None ≡ data_in text
no_data text none = none_by text (is_utf8 text) refl none
