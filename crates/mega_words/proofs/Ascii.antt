-- The name of a change is text.
use Rattle.std.proofs.Common.{◌≡◌, ℕ, ◌<◌, Bool, true, false, ◌&&◌, List, [], ◌∷◌, length, refl, arith, IsUtf8}
use Rattle.std.specs.Prelude.{nat_le}
use Rattle.std.specs.List.{list_all}
use Rattle.std.specs.Str.{IsAscii}
use Rattle.std.proofs.lemmas.Bool.Decides.{nat_tests}
use Rattle.std.proofs.lemmas.Str.Ascii.{IsAscii-nil, IsAscii-cons}
use Rattle.std.proofs.lemmas.Str.{IsUtf8-from_ascii}
use Rattle.mega_words.specs.Changes.{is_change, is_sign}

both : (a b : Bool) → (a && b) ≡ true → (a ≡ true) × (b ≡ true)
both true b h = (refl, h)
both false b h = absurd (cc)

ascii_sign : (b : ℕ) → is_sign b ≡ true → b < 128
ascii_sign b h = grind (arith, nat_tests)

ascii_signs : (bytes : List ℕ) → list_all is_sign bytes ≡ true → IsAscii bytes
ascii_signs [] h = IsAscii-nil
ascii_signs (b ∷ bytes) h = let p = both (is_sign b) (list_all is_sign bytes) h in IsAscii-cons b bytes (ascii_sign b p.0) (ascii_signs bytes p.1)

pub change_is_text : (word : List ℕ) → is_change word ≡ true → IsUtf8 word
change_is_text word h =
    let few = (both (nat_le 1 (length word)) (nat_le (length word) 64 && list_all is_sign word) h).1 in
    IsUtf8-from_ascii word (ascii_signs word (both (nat_le (length word) 64) (list_all is_sign word) few).1)
