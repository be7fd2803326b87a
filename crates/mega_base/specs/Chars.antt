-- Characters in UTF-8 and texts of them.
use Rattle.std.proofs.Common.{◌≡◌, ℕ, zero, suc, ◌+◌, ◌-◌, ◌*◌, ◌/◌, ◌%◌, ◌^◌, ◌<◌, ◌≤◌, List, [], ◌∷◌, ◌++◌, length, refl, sym, ◌∙◌, ap, subst, inl, inr, ◌⊎◌, Ok, Err, arith, add-zero, length-append, min, max}
use Rattle.std.proofs.Math.Nat.{div-div-eq-div-mul, pow-suc, div-add-mod, div-mul-le_self, div-one, div-eq_of_lt, le-div_iff_mul-le, lt-div-mul-add, mul-div_cancel}
use Rattle.std.proofs.lemmas.Nat.{le-div, mod_below, mod-mul-add, div-mul-add}
use Rattle.std.proofs.lemmas.Bool.{cases_lt}
use Rattle.std.specs.Prelude.{Bool, true, false, ◌&&◌, ◌||◌, ◌==◌, nat_le, nat_lt, if◌then◌else◌, replicate, IsUtf8, ◌≢◌, IsErr}
use Rattle.std.specs.List.{flat_map}
use Rattle.std.specs.Char.{encode_utf8, len_utf8, IsScalar}
use Rattle.std.specs.Str.{continuation_len, lead_bits, all_scalars, encode_utf8_all}
use Rattle.std.proofs.lemmas.Bool.Decides.{nat_tests}
use Rattle.std.proofs.lemmas.Str.{length-encode, len_utf8_bounds}
use lib.Utf8.{scalar_cases, low_scalar}
use Rattle.mega_base.specs.Reading.{Place, place, Read, ◌>>=◌, byte_in, byte_where, number_in}
use Rattle.mega_base.specs.Utf8.{least_char, greatest_char, is_lead, tail_in, char_at, chars_of, text_of_len, text_in, IsTextIn}
use Rattle.mega_base.specs.Codec.{number_text, BytesBetween, Stop, Codec, IsText, IsBetween, one_byte, IsCons, bytes_text, HasLen}
use Rattle.mega_base.specs.Codecs.{bind_codec, byte_codec, where_codec, then_codec, embed_codec, variant_codec, fits_codec, if_codec, pure_codec, ok_parts}
use Rattle.mega_base.specs.Digits.{number_codec}
use Rattle.mega_base.specs.Lists.{cons_codec, length-replicate}

-- the last k bytes of a character, the highest first
abbrev pub tail_text : ℕ → ℕ → List ℕ
tail_text zero c = []
tail_text (suc k) c = (128 + c / 64 ^ k % 64) ∷ tail_text k c

pub pow_64_pos : (k : ℕ) → 0 < 64 ^ k
pow_64_pos zero = omega arith
pow_64_pos (suc k) = rw (pow-suc 64 k) (omega (arith, pow_64_pos k))

-- n over one power more
top_next : (k n : ℕ) → n / 64 ^ suc k ≡ n / 64 ^ k / 64
top_next k n = rw (pow-suc 64 k) (sym (div-div-eq-div-mul n (64 ^ k) 64))

div_mono : (k m n : ℕ) → m ≤ n → m / 64 ^ k ≤ n / 64 ^ k
div_mono k m n h = le-div (m / 64 ^ k) n (64 ^ k) (pow_64_pos k) (omega (arith, div-mul-le_self m (64 ^ k)))

-- a number whose first bytes have the value v, where v is between those of low and high
reach : (k low high v : ℕ) → low ≤ high → low / 64 ^ k ≤ v → v ≤ high / 64 ^ k → (n : ℕ) × (low ≤ n) × (n ≤ high) × (n / 64 ^ k ≡ v)
reach k low high v order above below = elim (cases_lt low (v * 64 ^ k + 1)) [
  | inl h ↦ (v * 64 ^ k, omega arith, omega (arith, mul_le), mul-div_cancel v (pow_64_pos k))
  | inr h ↦ (low, omega arith, order, omega (arith, above, le-div v low (64 ^ k) (pow_64_pos k) (omega arith)))
]
  where
    mul_le : v * 64 ^ k ≤ high
    mul_le = (le-div_iff_mul-le {k = 64 ^ k} {x = v} {y = high} (pow_64_pos k)).0 below

-- from low to high, with the first bytes of value top
abbrev pub IsReached : ℕ → ℕ → ℕ → ℕ → ℕ → Type 0
IsReached k top low high n = (low ≤ n) × (n ≤ high) × (n / 64 ^ k ≡ top)

pub tail_codec : (k top low high : ℕ) → low ≤ high → low / 64 ^ k ≤ top → top ≤ high / 64 ^ k
    → Codec (tail_in k top low high) (tail_text k) (IsText (tail_text k) (IsReached k top low high)) (IsReached k top low high)
unfolding tail_in
tail_codec zero top low high order above below = record {
  takes = λ p n q h.
      let e : (top ≡ n) × (p ≡ q) = ok_parts top n p q h in
      let et : top ≡ n = e.0 in (
        record { text = ap (λ (z : Place). z.left) e.1; offset = omega (arith, ap (λ (z : Place). z.at) e.1) },
        (omega (arith, above, div-one low), omega (arith, below, div-one high), omega (arith, div-one n)),
      );
  again = λ at n rest f. let e : n ≡ top = omega (arith, f.2, div-one n) in rw (e, add-zero) refl;
  stops = λ p at h. absurd (let k : Ok (top, p) ≡ Err at = h in cc);
}
tail_codec (suc k) top low high order above below =
    bind_codec (byte_in (128 + min 63 (low / 64 ^ k - 64 * top)) (128 + min 63 (high / 64 ^ k - 64 * top))) one_byte InRange
    (λ b. tail_in k (64 * top + (b - 128)) low high) (λ _. tail_text k) (λ b. IsText (tail_text k) (IsReached k (64 * top + (b - 128)) low high)) (λ b. IsReached k (64 * top + (b - 128)) low high)
    (tail_text (suc k)) (IsText (tail_text (suc k)) (IsReached (suc k) top low high)) (IsReached (suc k) top low high)
    (byte_codec (128 + min 63 (low / 64 ^ k - 64 * top)) (128 + min 63 (high / 64 ^ k - 64 * top)) some_byte)
    (λ b f. tail_codec k (64 * top + (b - 128)) low high order (from_low b f) (from_high b f))
    (λ b n f g. (front b n f g, (g.0, g.1, whole_top b n f g)))
    (λ b t f w. (w.0, (w.1.0, w.1.1, whole_top b w.0 f w.1), front b w.0 f w.1 ∙ ap (λ l. b ∷ l) w.2))
    (λ n f. (128 + n / 64 ^ k % 64, byte_fits n f, (f.0, f.1, first_part n f)))
    (λ b f. let n = reach k low high (64 * top + (b - 128)) order (from_low b f) (from_high b f) in (tail_text k n.0, (n.0, (n.1, n.2, n.3), refl)))
  where
    InRange : ℕ → Type 0
    InRange b = (128 + min 63 (low / 64 ^ k - 64 * top) ≤ b) × (b ≤ 128 + min 63 (high / 64 ^ k - 64 * top))

    high_enough : 64 * top ≤ high / 64 ^ k
    high_enough = omega (arith, below, top_next k high, div-add-mod (high / 64 ^ k) 64)

    low_enough : low / 64 ^ k ≤ 64 * top + 63
    low_enough = omega (arith, above, top_next k low, div-add-mod (low / 64 ^ k) 64, mod_below (low / 64 ^ k) 64 (omega arith))

    some_byte : 128 + min 63 (low / 64 ^ k - 64 * top) ≤ 128 + min 63 (high / 64 ^ k - 64 * top)
    some_byte = omega (arith, div_mono k low high order, low_enough)

    from_low : (b : ℕ) → InRange b → low / 64 ^ k ≤ 64 * top + (b - 128)
    from_low b f = omega (arith, f.0, low_enough)

    from_high : (b : ℕ) → InRange b → 64 * top + (b - 128) ≤ high / 64 ^ k
    from_high b f = omega (arith, f.1, high_enough)

    byte_small : (b : ℕ) → InRange b → b - 128 < 64
    byte_small b f = omega (arith, f.1)

    mod_of : (b : ℕ) → b < 64 → (64 * top + b) % 64 ≡ b
    mod_of b h = omega arith

    byte_is : (b n : ℕ) → InRange b → IsReached k (64 * top + (b - 128)) low high n → 128 + n / 64 ^ k % 64 ≡ b
    byte_is b n f g = let e : n / 64 ^ k % 64 ≡ b - 128 = ap (λ z. z % 64) g.2 ∙ mod_of (b - 128) (byte_small b f) in omega (arith, f.0)

    front : (b n : ℕ) → InRange b → IsReached k (64 * top + (b - 128)) low high n → tail_text (suc k) n ≡ (b ∷ []) ++ tail_text k n
    front b n f g = ap (λ z. z ∷ tail_text k n) (byte_is b n f g)

    whole_top : (b n : ℕ) → InRange b → IsReached k (64 * top + (b - 128)) low high n → n / 64 ^ suc k ≡ top
    whole_top b n f g = top_next k n ∙ (ap (λ z. z / 64) g.2 ∙ omega (arith, byte_small b f))

    first_part : (n : ℕ) → IsReached (suc k) top low high n → n / 64 ^ k ≡ 64 * top + (128 + n / 64 ^ k % 64 - 128)
    first_part n f = omega (arith, top_next k n, f.2)

    byte_fits : (n : ℕ) → IsReached (suc k) top low high n → InRange (128 + n / 64 ^ k % 64)
    byte_fits n f = (omega (arith, first_part n f, div_mono k low n f.0), omega (arith, first_part n f, div_mono k n high f.1))

-- the classes of first bytes
data Lead (b : ℕ) : Type 0 where
  one : b < 128 → Lead b
  two : 194 ≤ b → b < 224 → Lead b
  three : 224 ≤ b → b < 240 → Lead b
  four : 240 ≤ b → b ≤ 244 → Lead b

below : (b n : ℕ) → b < n → nat_lt b n ≡ true
below b n h = grind (arith, nat_tests)

above : (b n : ℕ) → n ≤ b → nat_lt b n ≡ false
above b n h = grind (arith, nat_tests)

lead_range : (room b : ℕ) → is_lead room b ≡ true → 128 ≤ b → (194 ≤ b) × (b ≤ 244)
lead_range room b h high = grind (arith, nat_tests)

lead_room : (room b : ℕ) → is_lead room b ≡ true → continuation_len b ≤ room
lead_room room b h = grind (arith, nat_tests)

lead_of : (room b : ℕ) → is_lead room b ≡ true → Lead b
lead_of room b h = elim (cases_lt b 128) [
  | inl k ↦ one k
  | inr k ↦ let range : (194 ≤ b) × (b ≤ 244) = lead_range room b h k in elim (cases_lt b 224) [
    | inl l ↦ two range.0 l
    | inr l ↦ elim (cases_lt b 240) [ inl m ↦ three l m | inr m ↦ four m range.1 ]
  ]
]

is_lead-low : (room b : ℕ) → b < 128 → is_lead room b ≡ true
is_lead-low room b h = rw (below b 128 h) (grind (arith, nat_tests))

tests_true : (p q r t : Bool) → q ≡ true → r ≡ true → t ≡ true → ((p || (q && r)) && t) ≡ true
tests_true true q r t e f g = g
tests_true false q r t e f g = rw (e, f, g) refl

is_lead-high : (room b : ℕ) → 194 ≤ b → b ≤ 244 → continuation_len b ≤ room → is_lead room b ≡ true
is_lead-high room b h k l = tests_true (nat_lt b 128) (nat_le 194 b) (nat_le b 244) (nat_le (continuation_len b) room) (le_test 194 b h) (le_test b 244 k) (le_test (continuation_len b) room l)
  where
    le_test : (m n : ℕ) → m ≤ n → nat_le m n ≡ true
    le_test m n e = grind (arith, nat_tests)

high_scalar : (c : ℕ) → 57344 ≤ c → c < 1114112 → IsScalar c
high_scalar c h k = let e : nat_le 57344 c ≡ true = grind (arith, nat_tests) in rw (above c 55296 (omega arith), e, below c 1114112 k) refl

-- what a first byte tells: n bytes follow, the characters go from low to high, and b and these bytes spell them
record Shape (b n top low high : ℕ) : Type 0 where
  order : low ≤ high
  over : low / 64 ^ n ≤ top
  under : top ≤ high / 64 ^ n
  spelled : (c : ℕ) → IsReached n top low high c → (encode_utf8 c ≡ b ∷ tail_text n c) × IsScalar c × (len_utf8 c ≡ suc n)

to_shape : (b n top low high : ℕ) → continuation_len b ≡ n → lead_bits b ≡ top → least_char b ≡ low → greatest_char b ≡ high → Shape b n top low high → Shape b (continuation_len b) (lead_bits b) (least_char b) (greatest_char b)
to_shape b n top low high e1 e2 e3 e4 s =
    subst (λ (m : ℕ). Shape b (continuation_len b) (lead_bits b) (least_char b) m) (sym e4)
    (subst (λ (m : ℕ). Shape b (continuation_len b) (lead_bits b) m high) (sym e3)
    (subst (λ (m : ℕ). Shape b (continuation_len b) m low high) (sym e2)
    (subst (λ (m : ℕ). Shape b m top low high) (sym e1) s)))

same_test : (a b : ℕ) → a ≡ b → (a == b) ≡ true
same_test a b h = grind (arith, nat_tests)

other_test : (a b : ℕ) → a ≢ b → (a == b) ≡ false
other_test a b h = grind (arith, nat_tests)

of_three : (b : ℕ) → 224 ≤ b → b < 240 → (high : ℕ) → greatest_char b ≡ high → 2048 ≤ high → high ≤ 65535 → b - 224 ≤ high / 4096
    → ((c : ℕ) → c ≤ high → c / 4096 ≡ b - 224 → IsScalar c) → Shape b (continuation_len b) (lead_bits b) (least_char b) (greatest_char b)
unfolding encode_utf8
of_three b h k high e least most reached scalar = to_shape b 2 (b - 224) 2048 high
    (rw (above b 128 (omega arith), above b 224 h, below b 240 k) refl) (rw (above b 128 (omega arith), above b 224 h, below b 240 k) refl) (rw (above b 128 (omega arith), above b 224 h, below b 240 k) refl) e (record {
      order = least;
      over = omega arith;
      under = reached;
      spelled = λ c f.
          let big : nat_lt c 128 ≡ false = above c 128 (omega arith) in
          let bigger : nat_lt c 2048 ≡ false = above c 2048 (omega arith) in
          let small : nat_lt c 65536 ≡ true = below c 65536 (omega arith) in
          let first : 224 + c / 4096 ≡ b = omega (arith, f.2) in
          let one : c / 64 ^ 0 ≡ c = div-one c in
          (rw (big, bigger, small, first, one) refl, scalar c f.1 f.2, rw (big, bigger, small) refl);
    })

shape_of : (b : ℕ) → Lead b → Shape b (continuation_len b) (lead_bits b) (least_char b) (greatest_char b)
unfolding encode_utf8
shape_of b (one h) = to_shape b 0 b 0 127 (rw (below b 128 h) refl) (rw (below b 128 h) refl) (rw (below b 128 h) refl) (rw (below b 128 h) refl) (record {
  order = omega arith;
  over = omega (arith, div-one 0);
  under = omega (arith, div-one 127);
  spelled = λ c f.
      let e : c ≡ b = omega (arith, f.2, div-one c) in
      let small : nat_lt c 128 ≡ true = below c 128 (omega arith) in
      (rw small (ap (λ z. z ∷ []) e), low_scalar c (omega arith), rw small refl);
})
shape_of b (two h k) = to_shape b 1 (b - 192) 128 2047 (rw (above b 128 (omega arith), below b 224 k) refl) (rw (above b 128 (omega arith), below b 224 k) refl) (rw (above b 128 (omega arith), below b 224 k) refl) (rw (above b 128 (omega arith), below b 224 k) refl) (record {
  order = omega arith;
  over = omega arith;
  under = omega arith;
  spelled = λ c f.
      let big : nat_lt c 128 ≡ false = above c 128 (omega arith) in
      let small : nat_lt c 2048 ≡ true = below c 2048 (omega arith) in
      let first : 192 + c / 64 ≡ b = omega (arith, f.2) in
      let one : c / 64 ^ 0 ≡ c = div-one c in
      (rw (big, small, first, one) refl, low_scalar c (omega arith), rw (big, small) refl);
})
shape_of b (three h k) = elim (cases_lt b 237) [
  | inl l ↦ of_three b h k 65535 (rw (above b 128 (omega arith), above b 224 h, below b 240 k, (let e : (b == 237) ≡ false = other_test b 237 (omega arith) in e)) refl) (omega arith) (omega arith) (omega arith) (λ c i j. low_scalar c (omega arith))
  | inr l ↦ elim (cases_lt b 238) [
    | inl m ↦ of_three b h k 55295 (rw (above b 128 (omega arith), above b 224 h, below b 240 k, (let e : (b == 237) ≡ true = same_test b 237 (omega arith) in e)) refl) (omega arith) (omega arith) (omega arith) (λ c i j. low_scalar c (omega arith))
    | inr m ↦ of_three b h k 65535 (rw (above b 128 (omega arith), above b 224 h, below b 240 k, (let e : (b == 237) ≡ false = other_test b 237 (omega arith) in e)) refl) (omega arith) (omega arith) (omega arith) (λ c i j. high_scalar c (omega arith) (omega arith))
  ]
]
shape_of b (four h k) = to_shape b 3 (b - 240) 65536 1114111
    (rw (above b 128 (omega arith), above b 224 (omega arith), above b 240 h) refl) (rw (above b 128 (omega arith), above b 224 (omega arith), above b 240 h) refl)
    (rw (above b 128 (omega arith), above b 224 (omega arith), above b 240 h) refl) (rw (above b 128 (omega arith), above b 224 (omega arith), above b 240 h) refl) (record {
      order = omega arith;
      over = omega arith;
      under = omega arith;
      spelled = λ c f.
          let big : nat_lt c 128 ≡ false = above c 128 (omega arith) in
          let bigger : nat_lt c 2048 ≡ false = above c 2048 (omega arith) in
          let biggest : nat_lt c 65536 ≡ false = above c 65536 (omega arith) in
          let first : 240 + c / 262144 ≡ b = omega (arith, f.2) in
          let one : c / 64 ^ 0 ≡ c = div-one c in
          (rw (big, bigger, biggest, first, one) refl, high_scalar c (omega arith) (omega arith), rw (big, bigger, biggest) refl);
    })

-- a character that fits into room + 1 bytes
abbrev pub IsCharIn : ℕ → ℕ → Type 0
IsCharIn room c = IsScalar c × (len_utf8 c ≤ suc room)

to_told : (b n top low high c : ℕ) → continuation_len b ≡ n → lead_bits b ≡ top → least_char b ≡ low → greatest_char b ≡ high → IsReached n top low high c → IsReached (continuation_len b) (lead_bits b) (least_char b) (greatest_char b) c
to_told b n top low high c e1 e2 e3 e4 s =
    subst (λ (m : ℕ). IsReached (continuation_len b) (lead_bits b) (least_char b) m c) (sym e4)
    (subst (λ (m : ℕ). IsReached (continuation_len b) (lead_bits b) m high c) (sym e3)
    (subst (λ (m : ℕ). IsReached (continuation_len b) m low high c) (sym e2)
    (subst (λ (m : ℕ). IsReached m top low high c) (sym e1) s)))

-- the first byte of a character
char_parts : (room c : ℕ) → IsScalar c → len_utf8 c ≤ suc room → (b : ℕ) × (is_lead room b ≡ true) × IsReached (continuation_len b) (lead_bits b) (least_char b) (greatest_char b) c
char_parts room c scalar len = elim (cases_lt c 128) [
  | inl h ↦ (c, is_lead-low room c h, to_told c 0 c 0 127 c (rw (below c 128 h) refl) (rw (below c 128 h) refl) (rw (below c 128 h) refl) (rw (below c 128 h) refl) (omega arith, omega arith, div-one c))
  | inr h ↦ elim (cases_lt c 2048) [
    | inl k ↦
        let b : ℕ = 192 + c / 64 in
        let low : nat_lt b 128 ≡ false = above b 128 (omega arith) in
        let mid : nat_lt b 224 ≡ true = below b 224 (omega arith) in
        let one : continuation_len b ≡ 1 = rw (low, mid) refl in
        let two : len_utf8 c ≡ 2 = rw (above c 128 h, below c 2048 k) refl in (
          b,
          is_lead-high room b (omega arith) (omega arith) (omega (arith, one, two, len)),
          to_told b 1 (b - 192) 128 2047 c one (rw (low, mid) refl) (rw (low, mid) refl) (rw (low, mid) refl) (h, omega arith, omega arith),
        )
    | inr k ↦ elim (cases_lt c 65536) [
      | inl l ↦
          let b : ℕ = 224 + c / 4096 in
          let low : nat_lt b 128 ≡ false = above b 128 (omega arith) in
          let mid : nat_lt b 224 ≡ false = above b 224 (omega arith) in
          let high : nat_lt b 240 ≡ true = below b 240 (omega arith) in
          let two : continuation_len b ≡ 2 = rw (low, mid, high) refl in
          let three : len_utf8 c ≡ 3 = rw (above c 128 h, above c 2048 k, below c 65536 l) refl in
          let top : lead_bits b ≡ b - 224 = rw (low, mid, high) refl in
          let least : least_char b ≡ 2048 = rw (low, mid, high) refl in
          let lead : is_lead room b ≡ true = is_lead-high room b (omega arith) (omega arith) (omega (arith, two, three, len)) in
          elim (cases_eq b 237) [
            | inl m ↦ (b, lead, to_told b 2 (b - 224) 2048 55295 c two top least (rw (low, mid, high, same_test b 237 m) refl) (k, below_surrogates c scalar (omega arith), omega arith))
            | inr m ↦ (b, lead, to_told b 2 (b - 224) 2048 65535 c two top least (rw (low, mid, high, other_test b 237 m) refl) (k, omega arith, omega arith))
          ]
      | inr l ↦
          let most : c < 1114112 = below_last c scalar in
          let b : ℕ = 240 + c / 262144 in
          let low : nat_lt b 128 ≡ false = above b 128 (omega arith) in
          let mid : nat_lt b 224 ≡ false = above b 224 (omega arith) in
          let high : nat_lt b 240 ≡ false = above b 240 (omega arith) in
          let three : continuation_len b ≡ 3 = rw (low, mid, high) refl in
          let four : len_utf8 c ≡ 4 = rw (above c 128 h, above c 2048 k, above c 65536 l) refl in (
            b,
            is_lead-high room b (omega arith) (omega arith) (omega (arith, three, four, len)),
            to_told b 3 (b - 240) 65536 1114111 c three (rw (low, mid, high) refl) (rw (low, mid, high) refl) (rw (low, mid, high) refl) (l, omega arith, omega arith),
          )
    ]
  ]
]
  where
    cases_eq : (m n : ℕ) → (m ≡ n) ⊎ (m ≢ n)
    cases_eq m n = elim (cases_lt m n) [ inl h ↦ inr (λ e. omega arith) | inr h ↦ elim (cases_lt n m) [ inl k ↦ inr (λ e. omega arith) | inr k ↦ inl (omega arith) ] ]

    below_surrogates : (d : ℕ) → IsScalar d → d / 4096 ≡ 13 → d ≤ 55295
    below_surrogates d s e = elim (scalar_cases d s) [ inl h ↦ omega arith | inr h ↦ absurd (omega (arith, h.0)) ]

    below_last : (d : ℕ) → IsScalar d → d < 1114112
    below_last d s = elim (scalar_cases d s) [ inl h ↦ omega arith | inr h ↦ h.1 ]

pub char_codec : (room : ℕ) → Codec (char_at room) encode_utf8 (IsText encode_utf8 (IsCharIn room)) (IsCharIn room)
unfolding char_at
char_codec room =
    bind_codec (byte_where (is_lead room)) one_byte (λ b. is_lead room b ≡ true)
    (λ b. tail_in (continuation_len b) (lead_bits b) (least_char b) (greatest_char b)) (λ b. tail_text (continuation_len b)) (λ b. IsText (tail_text (continuation_len b)) (FollowsLead b)) FollowsLead
    encode_utf8 (IsText encode_utf8 (IsCharIn room)) (IsCharIn room)
    (where_codec (is_lead room) 0 (is_lead-low room 0 (omega arith)))
    (λ b f. let s = shape b f in tail_codec (continuation_len b) (lead_bits b) (least_char b) (greatest_char b) s.order s.over s.under)
    (λ b c f g. (((shape b f).spelled c g).0, fits b c f g))
    (λ b t f w. (w.0, fits b w.0 f w.1, ((shape b f).spelled w.0 w.1).0 ∙ ap (λ l. b ∷ l) w.2))
    parts
    (λ b f. let s = shape b f in let n = reach (continuation_len b) (least_char b) (greatest_char b) (lead_bits b) s.order s.over s.under in
    (tail_text (continuation_len b) n.0, (n.0, (n.1, n.2, n.3), refl)))
  where
    FollowsLead : ℕ → ℕ → Type 0
    FollowsLead b c = IsReached (continuation_len b) (lead_bits b) (least_char b) (greatest_char b) c

    shape : (b : ℕ) → is_lead room b ≡ true → Shape b (continuation_len b) (lead_bits b) (least_char b) (greatest_char b)
    shape b f = shape_of b (lead_of room b f)

    fits : (b c : ℕ) → is_lead room b ≡ true → FollowsLead b c → IsCharIn room c
    fits b c f g = let s = (shape b f).spelled c g in (s.1, omega (arith, s.2, lead_room room b f))

    parts : (c : ℕ) → IsCharIn room c → (b : ℕ) × (is_lead room b ≡ true) × FollowsLead b c
    parts c h = char_parts room c h.0 h.1

-- the characters of n bytes
pub record AreChars (n : ℕ) (cs : List ℕ) : Type 0 where
  pub scalars : all_scalars cs ≡ true
  pub size : length (flat_map encode_utf8 cs) ≡ n

both_true : (p q : Bool) → p ≡ true → q ≡ true → (p && q) ≡ true
both_true p q e f = rw (e, f) refl

and_parts : (p q : Bool) → (p && q) ≡ true → (p ≡ true) × (q ≡ true)
and_parts true q e = (refl, e)
and_parts false q e = absurd (cc)

-- zeros are characters of one byte
zeros : (n : ℕ) → AreChars n (replicate n 0)
unfolding encode_utf8
zeros zero = record { scalars = refl; size = refl }
zeros (suc n) = let rest = zeros n in record { scalars = rest.scalars; size = ap suc rest.size }

no_chars : (n : ℕ) → n ≡ 0 → Codec (λ p. Ok ([], p)) (flat_map encode_utf8) (IsText (flat_map encode_utf8) (AreChars n)) (AreChars n)
no_chars n e =
    fits_codec (λ p. Ok ([], p)) (flat_map encode_utf8) (λ cs. cs ≡ []) (AreChars n) (pure_codec [] (flat_map encode_utf8) (IsText (flat_map encode_utf8) (λ cs. cs ≡ [])) refl)
    (λ cs f. subst (λ (l : List ℕ). AreChars n l) (sym f) (record { scalars = refl; size = sym e }))
    none
  where
    none : (cs : List ℕ) → AreChars n cs → cs ≡ []
    none [] f = refl
    none (c ∷ cs) f = absurd (omega (arith, e, f.size, length-append (encode_utf8 c) (flat_map encode_utf8 cs), length-encode c, (len_utf8_bounds c).0))

pub chars_codec : (fuel n : ℕ) → n ≤ fuel → Codec (chars_of fuel n) (flat_map encode_utf8) (IsText (flat_map encode_utf8) (AreChars n)) (AreChars n)
unfolding chars_of
chars_codec zero n few = no_chars n (omega arith)
chars_codec (suc fuel) n few =
    if_codec (n == 0) (λ p. Ok ([], p)) (λ p. char_at (n - 1) p >>= λ c. chars_of fuel (n - len_utf8 c.0) c.1 >>= λ cs. Ok (c.0 ∷ cs.0, cs.1)) (flat_map encode_utf8) (IsText (flat_map encode_utf8) (AreChars n)) (AreChars n)
    (λ e. no_chars n (is_zero e))
    (λ e. fits_codec (λ p. char_at (n - 1) p >>= λ c. chars_of fuel (n - len_utf8 c.0) c.1 >>= λ cs. Ok (c.0 ∷ cs.0, cs.1)) (flat_map encode_utf8) (IsCons (IsCharIn (n - 1)) (λ c. AreChars (n - len_utf8 c))) (AreChars n)
    (cons_codec (char_at (n - 1)) encode_utf8 (IsCharIn (n - 1)) (λ c. chars_of fuel (n - len_utf8 c)) (λ c. AreChars (n - len_utf8 c))
    (char_codec (n - 1))
    (λ c f. chars_codec fuel (n - len_utf8 c) (omega (arith, few, (len_utf8_bounds c).0)))
    (λ c f. (replicate (n - len_utf8 c) 0, zeros (n - len_utf8 c))))
    (joined (not_zero e))
    (apart (not_zero e)))
  where
    is_zero : (n == 0) ≡ true → n ≡ 0
    is_zero e = grind (arith, nat_tests)

    not_zero : (n == 0) ≡ false → 0 < n
    not_zero e = let d : n ≢ 0 = grind (arith, nat_tests) in omega arith

    joined : 0 < n → (cs : List ℕ) → IsCons (IsCharIn (n - 1)) (λ c. AreChars (n - len_utf8 c)) cs → AreChars n cs
    joined some [] h = absurd h
    joined some (c ∷ cs) h = record {
      scalars = both_true _ _ h.0.0 h.1.scalars;
      size = omega (arith, some, h.0.1, h.1.size, length-append (encode_utf8 c) (flat_map encode_utf8 cs), length-encode c);
    }

    apart : 0 < n → (cs : List ℕ) → AreChars n cs → IsCons (IsCharIn (n - 1)) (λ c. AreChars (n - len_utf8 c)) cs
    apart some [] h = absurd (omega (arith, h.size, some))
    apart some (c ∷ cs) h =
        let both : (IsScalar c) × (all_scalars cs ≡ true) = and_parts _ _ h.scalars in
        let sum : len_utf8 c + length (flat_map encode_utf8 cs) ≡ n = omega (arith, h.size, length-append (encode_utf8 c) (flat_map encode_utf8 cs), length-encode c) in
        ((both.0, omega (arith, sum)), record { scalars = both.1; size = omega (arith, sum) })

encodes-flat_map : (cs : List ℕ) → encode_utf8_all cs ≡ flat_map encode_utf8 cs
encodes-flat_map [] = refl
encodes-flat_map (c ∷ cs) = ap (λ l. encode_utf8 c ++ l) (encodes-flat_map cs)

-- a text of n bytes
abbrev pub IsTextOfLen : ℕ → List ℕ → Type 0
IsTextOfLen n bytes = IsUtf8 bytes × (length bytes ≡ n)

pub text_of_len_codec : (n : ℕ) → Codec (text_of_len n) (λ t. t) (IsText (λ t. t) (IsTextOfLen n)) (IsTextOfLen n)
unfolding text_of_len
text_of_len_codec n =
    variant_codec (chars_of n n) (flat_map encode_utf8) (AreChars n) (flat_map encode_utf8) (λ t. t) (IsTextOfLen n) (chars_codec n n (omega arith))
    (λ cs f. (refl, ((cs, (f.scalars, encodes-flat_map cs)), f.size)))
    (λ bytes g.
    let e : flat_map encode_utf8 g.0.0 ≡ bytes = sym (encodes-flat_map g.0.0) ∙ g.0.1.1 in
    (g.0.0, record { scalars = g.0.1.0; size = ap length e ∙ g.1 }, e))

pub text_codec : (low high : ℕ) → low ≤ high → high < 2 ^ 32 → Codec (text_in low high) bytes_text (IsText bytes_text (IsTextIn low high)) (IsTextIn low high)
unfolding text_in
text_codec low high order small =
    fits_codec (λ p. number_in 4 low high p >>= λ n. text_of_len n.0 n.1) bytes_text (λ t. IsBetween low high (length t) × IsTextOfLen (length t) t) (IsTextIn low high)
    (then_codec (number_in 4 low high) (number_text 4) (IsBetween low high) (λ n. text_of_len n) (λ t. t) IsTextOfLen length
    (number_codec 4 low high order small)
    (λ n g. text_of_len_codec n)
    (λ n t g h. h.1)
    (λ n g. let z = zeros n in (flat_map encode_utf8 (replicate n 0), ((replicate n 0, (z.scalars, encodes-flat_map (replicate n 0))), z.size))))
    (λ t g. (g.1.0, g.0))
    (λ t g. (g.1, (g.0, refl)))
