-- A name is text.
use Rattle.std.proofs.Common.{◌≡◌, ℕ, ◌<◌, Bool, true, false, ◌&&◌, List, [], ◌∷◌, refl, arith, IsUtf8}
use Rattle.std.specs.List.{list_all}
use Rattle.std.specs.Str.{IsAscii}
use Rattle.std.proofs.lemmas.Bool.Decides.{nat_tests}
use Rattle.std.proofs.lemmas.Str.Ascii.{IsAscii-nil, IsAscii-cons}
use Rattle.std.proofs.lemmas.Str.{IsUtf8-from_ascii}
use Rattle.mega_syntax.specs.Names.{is_letter, is_name_byte, is_name}

both : (a b : Bool) → (a && b) ≡ true → (a ≡ true) × (b ≡ true)
both true b h = (refl, h)
both false b h = absurd (cc)

ascii_byte : (b : ℕ) → is_name_byte b ≡ true → b < 128
ascii_byte b h = grind (arith, nat_tests)

ascii_letter : (b : ℕ) → is_letter b ≡ true → b < 128
ascii_letter b h = grind (arith, nat_tests)

ascii_bytes : (bytes : List ℕ) → list_all is_name_byte bytes ≡ true → IsAscii bytes
ascii_bytes [] h = IsAscii-nil
ascii_bytes (b ∷ bytes) h = let p = both (is_name_byte b) (list_all is_name_byte bytes) h in IsAscii-cons b bytes (ascii_byte b p.0) (ascii_bytes bytes p.1)

pub name_text : (bytes : List ℕ) → is_name bytes ≡ true → IsUtf8 bytes
name_text [] h = absurd (cc)
name_text (b ∷ bytes) h = let p = both (is_letter b) (list_all is_name_byte bytes) h in IsUtf8-from_ascii (b ∷ bytes) (IsAscii-cons b bytes (ascii_letter b p.0) (ascii_bytes bytes p.1))
