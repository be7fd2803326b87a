-- Texts of plain bytes: names, and hex.
use Rattle.std.proofs.Common.{◌≡◌, ℕ, zero, suc, ◌*◌, ◌/◌, ◌%◌, ◌<◌, ◌≤◌, ◌&&◌, ◌||◌, Bool, true, false, List, [], ◌∷◌, ◌++◌, length, refl, sym, ap, ◌∙◌, arith, IsUtf8}
use Rattle.std.specs.Prelude.{◌==◌, nat_le, nat_lt, slice_index}
use Rattle.std.specs.List.{list_all}
use Rattle.std.proofs.lemmas.Bool.{and_parts}
use Rattle.std.proofs.lemmas.Bool.Decides.{nat_tests}
use Rattle.json.specs.Print.{escape, escape_byte, quoted as json_quoted}
use Rattle.json.proofs.Printed.Strings.{escape_byte_plain}
use Rattle.json.proofs.Printed.Utf8.{are_ascii, IsUtf8-are_ascii}
use Rattle.hex.specs.Hex.{IsBytes, encode_with, encode_lower, lower_digits}
use Rattle.hex.proofs.HexLemmas.{length-encode_with, decode_of-encode_lower}
use Rattle.mega_schedule.specs.Fields.{is_hex_digit, is_hex}
use Rattle.mega_schedule.specs.Values.{decoded, bytes_of}
use Rattle.mega_two_driver.specs.Texts.{quoted}
use Rattle.mega_two_driver.specs.Lines.{is_letter}
use Rattle.mega_syntax.specs.Names.{is_name_byte}

-- ---- plain bytes: neither a quote nor a backslash, and from a space up to the last of ASCII

abbrev pub is_plain : ℕ → Bool
is_plain b = ((nat_le 35 b && nat_le b 91) || (nat_le 93 b && nat_le b 127)) || (b == 32)

abbrev pub is_text : List ℕ → Bool
is_text text = list_all is_plain text

plain_byte : (b : ℕ) → is_plain b ≡ true → escape_byte b ≡ b ∷ []
plain_byte b e =
    let quote : b ≡ 34 → ⊥ = λ same. apart 34 refl (ap is_plain (sym same) ∙ e) in
    let slash : b ≡ 92 → ⊥ = λ same. apart 92 refl (ap is_plain (sym same) ∙ e) in
    escape_byte_plain b quote slash (least b e)
  where
    apart : (n : ℕ) → is_plain n ≡ false → is_plain n ≡ true → ⊥
    apart n f g = let clash : false ≡ true = sym f ∙ g in cc

    least : (b : ℕ) → is_plain b ≡ true → 32 ≤ b
    least b g = grind (arith, nat_tests)

pub plain_escape : (text : List ℕ) → is_text text ≡ true → escape text ≡ text
plain_escape [] e = refl
plain_escape (b ∷ text) e = let p = and_parts (is_plain b) (is_text text) e in (λ i. plain_byte b p.0 i ++ plain_escape text p.1 i)

pub plain_quoted : (text : List ℕ) → is_text text ≡ true → json_quoted text ≡ quoted text
plain_quoted text e = ap (λ (t : List ℕ). 34 ∷ (t ++ 34 ∷ [])) (plain_escape text e)

plain_ascii : (text : List ℕ) → is_text text ≡ true → are_ascii text ≡ true
plain_ascii [] e = refl
plain_ascii (b ∷ text) e = let p = and_parts (is_plain b) (is_text text) e in (λ i. small b p.0 i && plain_ascii text p.1 i)
  where
    small : (b : ℕ) → is_plain b ≡ true → nat_lt b 128 ≡ true
    small b g = grind (arith, nat_tests)

pub plain_utf8 : (text : List ℕ) → is_text text ≡ true → IsUtf8 text
plain_utf8 text e = IsUtf8-are_ascii text (plain_ascii text e)

pub all_plain : (test : ℕ → Bool) → ((b : ℕ) → test b ≡ true → is_plain b ≡ true) → (text : List ℕ) → list_all test text ≡ true → is_text text ≡ true
all_plain test implies [] e = refl
all_plain test implies (b ∷ text) e = let p = and_parts (test b) (list_all test text) e in (λ i. implies b p.0 i && all_plain test implies text p.1 i)

pub letter_plain : (b : ℕ) → is_letter b ≡ true → is_plain b ≡ true
letter_plain b e = grind (arith, nat_tests)

pub name_plain : (b : ℕ) → is_name_byte b ≡ true → is_plain b ≡ true
name_plain b e = grind (arith, nat_tests)

pub plain_both : (a b : List ℕ) → is_text a ≡ true → is_text b ≡ true → is_text (a ++ b) ≡ true
plain_both [] b f g = g
plain_both (x ∷ a) b f g = let p = and_parts (is_plain x) (is_text a) f in (λ i. p.0 i && plain_both a b p.1 g i)

-- ---- hex

all_index : (test : ℕ → Bool) (xs : List ℕ) (i : ℕ) → list_all test xs ≡ true → i < length xs → test (slice_index xs i) ≡ true
all_index test [] i e below = absurd (omega (arith, below))
all_index test (x ∷ xs) zero e below = (and_parts (test x) (list_all test xs) e).0
all_index test (x ∷ xs) (suc i) e below = all_index test xs i (and_parts (test x) (list_all test xs) e).1 (omega (arith, below))

below_sixteen : (b : ℕ) → b < 256 → b / 16 < 16
below_sixteen b e = omega (arith, e)

rest_below : (b : ℕ) → b % 16 < 16
rest_below b = omega arith

bytes_behind : (b : ℕ) (xs : List ℕ) → IsBytes (b ∷ xs) → IsBytes xs
bytes_behind b xs all i = all (suc i)

encoded_all : (test : ℕ → Bool) → list_all test lower_digits ≡ true → (xs : List ℕ) → IsBytes xs → list_all test (encode_with lower_digits xs) ≡ true
unfolding encode_with
encoded_all test digits [] all = refl
encoded_all test digits (b ∷ xs) all =
    λ i. all_index test lower_digits (b / 16) digits (below_sixteen b (all 0)) i && (all_index test lower_digits (b % 16) digits (rest_below b) i && encoded_all test digits xs (bytes_behind b xs all) i)

pub hex_plain : (line : List ℕ) → IsBytes line → is_text (encode_lower line) ≡ true
hex_plain line all = encoded_all is_plain refl line all

even : (n : ℕ) → (2 * n % 2 == 0) ≡ true
even n = let zero_left : 2 * n % 2 ≡ 0 = omega arith in grind (arith, nat_tests)

pub hex_is : (line : List ℕ) → IsBytes line → is_hex (encode_lower line) ≡ true
hex_is line all =
    (λ i. (length-encode_with lower_digits line i % 2 == 0) && list_all is_hex_digit (encode_lower line))
    ∙ (λ i. even (length line) i && encoded_all is_hex_digit refl line all i)

pub hex_back : (line : List ℕ) → IsBytes line → bytes_of (encode_lower line) ≡ line
hex_back line all = ap decoded (decode_of-encode_lower line all)
