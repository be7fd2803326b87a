-- Numbers, the highest byte first: each byte has to leave a number of the range within reach.
use Rattle.std.proofs.Common.{◌≡◌, ℕ, zero, suc, ◌+◌, ◌-◌, ◌*◌, ◌/◌, ◌%◌, ◌^◌, ◌<◌, ◌≤◌, List, [], ◌∷◌, ◌++◌, length, refl, sym, ◌∙◌, ap, subst, inl, inr, ◌⊎◌, Ok, Err, arith, add-zero, min, max}
use Rattle.std.proofs.Math.Nat.{div-div-eq-div-mul, pow-suc, div-add-mod, div-mul-le_self, div-one, div-eq_of_lt, le-div_iff_mul-le, lt-div-mul-add, mul-div_cancel}
use Rattle.std.proofs.lemmas.Nat.{le-div, mod_below, mod-mul-add, div-mul-add}
use Rattle.std.proofs.lemmas.Bool.{cases_lt}
use Rattle.std.specs.Int.{bytes_high_first, byte_at}
use Rattle.mega_base.specs.Reading.{Place, place, Read, ◌>>=◌, byte_in, digits_in, number_in}
use Rattle.mega_base.specs.Codec.{number_text, BytesBetween, Stop, Codec, IsText, IsBetween, one_byte}
use Rattle.mega_base.specs.Codecs.{bind_codec, byte_codec, fits_codec, ok_parts}

pub pow_256_pos : (k : ℕ) → 0 < 256 ^ k
pow_256_pos zero = omega arith
pow_256_pos (suc k) = rw (pow-suc 256 k) (omega (arith, pow_256_pos k))

pub byte_at-is : (k n : ℕ) → byte_at k n ≡ n / 256 ^ k % 256
byte_at-is zero n = ap (λ m. m % 256) (sym (div-one n))
byte_at-is (suc k) n = refl

-- n over one power more
top_next : (k n : ℕ) → n / 256 ^ suc k ≡ n / 256 ^ k / 256
top_next k n = rw (pow-suc 256 k) (sym (div-div-eq-div-mul n (256 ^ k) 256))

div_mono : (k m n : ℕ) → m ≤ n → m / 256 ^ k ≤ n / 256 ^ k
div_mono k m n h = le-div (m / 256 ^ k) n (256 ^ k) (pow_256_pos k) (omega (arith, div-mul-le_self m (256 ^ k)))

-- a number whose first bytes have the value v, where v is between those of low and high
reach : (k low high v : ℕ) → low ≤ high → low / 256 ^ k ≤ v → v ≤ high / 256 ^ k → (n : ℕ) × (low ≤ n) × (n ≤ high) × (n / 256 ^ k ≡ v)
reach k low high v order above below = elim (cases_lt low (v * 256 ^ k + 1)) [
  | inl h ↦ (v * 256 ^ k, omega arith, omega (arith, mul_le), mul-div_cancel v (pow_256_pos k))
  | inr h ↦ (low, omega arith, order, omega (arith, above, le-div v low (256 ^ k) (pow_256_pos k) (omega arith)))
]
  where
    mul_le : v * 256 ^ k ≤ high
    mul_le = (le-div_iff_mul-le {k = 256 ^ k} {x = v} {y = high} (pow_256_pos k)).0 below

-- from low to high, with the first bytes of value top
abbrev pub IsReached : ℕ → ℕ → ℕ → ℕ → ℕ → Type 0
IsReached k top low high n = (low ≤ n) × (n ≤ high) × (n / 256 ^ k ≡ top)

pub digits_codec : (k top low high : ℕ) → low ≤ high → low / 256 ^ k ≤ top → top ≤ high / 256 ^ k
    → Codec (digits_in k top low high) (bytes_high_first k) (IsText (bytes_high_first k) (IsReached k top low high)) (IsReached k top low high)
unfolding digits_in
digits_codec zero top low high order above below = record {
  takes = λ p n q h.
      let e : (top ≡ n) × (p ≡ q) = ok_parts top n p q h in
      let et : top ≡ n = e.0 in (
        record { text = ap (λ (z : Place). z.left) e.1; offset = omega (arith, ap (λ (z : Place). z.at) e.1) },
        (omega (arith, above, div-one low), omega (arith, below, div-one high), omega (arith, div-one n)),
      );
  again = λ at n rest f. let e : n ≡ top = omega (arith, f.2, div-one n) in rw (e, add-zero) refl;
  stops = λ p at h. absurd (let k : Ok (top, p) ≡ Err at = h in cc);
}
digits_codec (suc k) top low high order above below =
    bind_codec (byte_in (min 255 (low / 256 ^ k - 256 * top)) (min 255 (high / 256 ^ k - 256 * top))) one_byte InRange
    (λ b. digits_in k (256 * top + b) low high) (λ _. bytes_high_first k) (λ b. IsText (bytes_high_first k) (IsReached k (256 * top + b) low high)) (λ b. IsReached k (256 * top + b) low high)
    (bytes_high_first (suc k)) (IsText (bytes_high_first (suc k)) (IsReached (suc k) top low high)) (IsReached (suc k) top low high)
    (byte_codec (min 255 (low / 256 ^ k - 256 * top)) (min 255 (high / 256 ^ k - 256 * top)) some_byte)
    (λ b f. digits_codec k (256 * top + b) low high order (from_low b f) (from_high b f))
    (λ b n f g. (front b n f g, (g.0, g.1, whole_top b n f g)))
    (λ b t f w. (w.0, (w.1.0, w.1.1, whole_top b w.0 f w.1), front b w.0 f w.1 ∙ ap (λ l. b ∷ l) w.2))
    (λ n f. (n / 256 ^ k % 256, byte_fits n f, (f.0, f.1, first_part n f)))
    (λ b f. let n = reach k low high (256 * top + b) order (from_low b f) (from_high b f) in (bytes_high_first k n.0, (n.0, (n.1, n.2, n.3), refl)))
  where
    InRange : ℕ → Type 0
    InRange b = (min 255 (low / 256 ^ k - 256 * top) ≤ b) × (b ≤ min 255 (high / 256 ^ k - 256 * top))

    high_enough : 256 * top ≤ high / 256 ^ k
    high_enough = omega (arith, below, top_next k high, div-add-mod (high / 256 ^ k) 256)

    low_enough : low / 256 ^ k ≤ 256 * top + 255
    low_enough = omega (arith, above, top_next k low, div-add-mod (low / 256 ^ k) 256, mod_below (low / 256 ^ k) 256 (omega arith))

    some_byte : min 255 (low / 256 ^ k - 256 * top) ≤ min 255 (high / 256 ^ k - 256 * top)
    some_byte = omega (arith, div_mono k low high order, low_enough)

    from_low : (b : ℕ) → InRange b → low / 256 ^ k ≤ 256 * top + b
    from_low b f = omega (arith, f.0, low_enough)

    from_high : (b : ℕ) → InRange b → 256 * top + b ≤ high / 256 ^ k
    from_high b f = omega (arith, f.1, high_enough)

    byte_small : (b : ℕ) → InRange b → b < 256
    byte_small b f = omega (arith, f.1)

    mod_of : (b : ℕ) → b < 256 → (256 * top + b) % 256 ≡ b
    mod_of b h = omega arith

    front : (b n : ℕ) → InRange b → IsReached k (256 * top + b) low high n → bytes_high_first (suc k) n ≡ (b ∷ []) ++ bytes_high_first k n
    front b n f g = ap (λ z. z ∷ bytes_high_first k n) (byte_at-is k n ∙ (ap (λ z. z % 256) g.2 ∙ mod_of b (byte_small b f)))

    whole_top : (b n : ℕ) → InRange b → IsReached k (256 * top + b) low high n → n / 256 ^ suc k ≡ top
    whole_top b n f g = top_next k n ∙ (ap (λ z. z / 256) g.2 ∙ omega (arith, byte_small b f))

    first_part : (n : ℕ) → IsReached (suc k) top low high n → n / 256 ^ k ≡ 256 * top + n / 256 ^ k % 256
    first_part n f = omega (arith, top_next k n, f.2)

    byte_fits : (n : ℕ) → IsReached (suc k) top low high n → InRange (n / 256 ^ k % 256)
    byte_fits n f = (omega (arith, first_part n f, div_mono k low n f.0), omega (arith, first_part n f, div_mono k n high f.1))

-- a number of k bytes from low to high
pub number_codec : (k low high : ℕ) → low ≤ high → high < 256 ^ k → Codec (number_in k low high) (number_text k) (IsText (number_text k) (IsBetween low high)) (IsBetween low high)
unfolding number_text
number_codec k low high order small =
    fits_codec (number_in k low high) (bytes_high_first k) (IsReached k 0 low high) (IsBetween low high)
    (digits_codec k 0 low high order (omega (arith, none low (omega arith))) (omega arith))
    (λ n f. (f.0, f.1))
    (λ n f. (f.0, f.1, none n (omega (arith, f.1))))
  where
    none : (n : ℕ) → n < 256 ^ k → n / 256 ^ k ≡ 0
    none n h = div-eq_of_lt h

pub length_number_text : (k n : ℕ) → length (number_text k n) ≡ k
unfolding number_text
length_number_text k n = digits k n
  where
    digits : (j m : ℕ) → length (bytes_high_first j m) ≡ j
    digits zero m = refl
    digits (suc j) m = ap suc (digits j m)

-- a number that was read is in its range
pub in_range : (k low high : ℕ) (p : Place) (n : ℕ) (q : Place) → digits_in k 0 low high p ≡ Ok (n, q) → low ≤ high → high < 256 ^ k → n ≤ high
in_range k low high p n q h order small = ((number_codec k low high order small).takes p n q h).1.1
