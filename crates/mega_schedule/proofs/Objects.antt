-- What a line is as JSON.
use Rattle.std.proofs.Common.{◌≡◌, ℕ, List, Bool, true, false, Some, None, is_some, Ok, Err, refl}
use Rattle.std.proofs.lemmas.Str.{is_utf8-from_IsUtf8, IsUtf8-from_is_utf8}
use Rattle.std.specs.Str.{is_utf8, IsUtf8}
use Rattle.serde_json.specs.Data.{Data}
use Rattle.serde_json.specs.Read.{read as read_json}
use Rattle.serde_json.specs.Find.{as_object}
use Rattle.mega_schedule.specs.Events.{object_of}

pub is_object : (line : List ℕ) (d : Data) → IsUtf8 line → read_json line ≡ Some d → is_some (as_object d) ≡ true → object_of line ≡ Ok d
is_object line d text is object = rw (is_utf8-from_IsUtf8 line text, is, object) refl

pub is_other : (line : List ℕ) (d : Data) → IsUtf8 line → read_json line ≡ Some d → is_some (as_object d) ≡ false → object_of line ≡ Err 1
is_other line d text is object = rw (is_utf8-from_IsUtf8 line text, is, object) refl

refused : (line : List ℕ) (b : Bool) → is_utf8 line ≡ b → (IsUtf8 line → read_json line ≡ None) → object_of line ≡ Err 1
refused line true text none = rw (text, none (IsUtf8-from_is_utf8 line text)) refl
refused line false text none = rw text refl

pub is_refused : (line : List ℕ) → (IsUtf8 line → read_json line ≡ None) → object_of line ≡ Err 1
is_refused line none = refused line (is_utf8 line) refl none
