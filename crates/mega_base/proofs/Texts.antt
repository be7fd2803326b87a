-- Texts that are read whole, and where they are refused.
use Rattle.std.proofs.Common.{◌≡◌, ℕ, zero, suc, ◌+◌, ◌-◌, ◌<◌, ◌≤◌, Bool, true, false, List, [], ◌∷◌, ◌++◌, length, take, drop, refl, sym, ◌∙◌, ap, subst, inl, inr, ◌⊎◌, Result, Ok, Err, IsErr, arith, length-append}
use Rattle.std.specs.Prelude.{◌==◌, if◌then◌else◌, ◌≢◌, IsUtf8}
use Rattle.std.specs.List.{flat_map}
use Rattle.std.specs.Char.{encode_utf8, len_utf8}
use Rattle.std.proofs.lemmas.Bool.Decides.{nat_tests}
use Rattle.std.proofs.lemmas.List.{take-append-drop, length-take-le}
use Rattle.std.proofs.Math.Seq.{take-append_seam}
use Rattle.mega_base.specs.Reading.{Place, place, Read, ◌>>=◌}
use Rattle.mega_base.specs.Codec.{BytesBetween, Codec}
use Rattle.mega_base.specs.Utf8.{char_at, chars_of, text_of_len}
use Rattle.mega_base.specs.Chars.{IsCharIn, char_codec, IsTextOfLen, text_of_len_codec}

-- a text that is there is read
pub good_text : (n : ℕ) (p : Place) → n ≤ length p.left → IsUtf8 (take n p.left) → text_of_len n p ≡ Ok (take n p.left, place (p.at + n) (drop n p.left))
good_text n p enough utf8 =
    let len : length (take n p.left) ≡ n = length-take-le n p.left enough in
    let P : List ℕ → Type 0 = λ l. text_of_len n (place p.at l) ≡ Ok (take n p.left, place (p.at + n) (drop n p.left)) in
    subst P (take-append-drop n p.left)
    (subst (λ (m : ℕ). text_of_len n (place p.at (take n p.left ++ drop n p.left)) ≡ Ok (take n p.left, place (p.at + m) (drop n p.left))) len
    ((text_of_len_codec n).again p.at (take n p.left) (drop n p.left) (utf8, len)))

refused : (n : ℕ) (p : Place) (read : Read (List ℕ)) → text_of_len n p ≡ read → ((t : List ℕ) (q : Place) → p.left ≡ t ++ q.left → IsUtf8 t → length t ≡ n → ⊥) → IsErr (text_of_len n p)
refused n p (Err at) e none = rw e refl
refused n p (Ok x) e none = let there = (text_of_len_codec n).takes p x.0 x.1 e in absurd (none x.0 x.1 there.0.text there.1.0 there.1.1)

-- fewer bytes are there
pub short_text : (n : ℕ) (p : Place) → length p.left < n → IsErr (text_of_len n p)
short_text n p few = refused n p (text_of_len n p) refl (λ t q e u len. omega (arith, few, len, ap length e, length-append t q.left))

-- the bytes are no text
pub no_text : (n : ℕ) (p : Place) → (IsUtf8 (take n p.left) → ⊥) → IsErr (text_of_len n p)
no_text n p none = refused n p (text_of_len n p) refl (λ t q e u len.
    let same : take n p.left ≡ t = subst (λ (m : ℕ). take m p.left ≡ t) len (ap (λ l. take (length t) l) e ∙ take-append_seam t q.left) in
    none (subst (λ (l : List ℕ). IsUtf8 l) (sym same) u))

-- where a text is refused, its characters are
pub chars_err : (n : ℕ) (p : Place) → IsErr (text_of_len n p) → IsErr (chars_of n n p)
unfolding text_of_len
chars_err n p h = first (chars_of n n p) h
  where
    first : (r : Read (List ℕ)) → IsErr (◌>>=◌ {B = List ℕ × Place} r (λ cs. Ok (flat_map encode_utf8 cs.0, cs.1))) → IsErr r
    first (Ok cs) k = absurd (cc)
    first (Err at) k = refl

pub text_err : (n : ℕ) (p : Place) (at : ℕ) → chars_of n n p ≡ Err at → text_of_len n p ≡ Err at
unfolding text_of_len
text_err n p at h = rw h refl

is_some : (n : ℕ) → 0 < n → (n == 0) ≡ false
is_some n h = let d : n ≢ 0 = omega arith in grind (arith, nat_tests)

-- one character more is read
pub char_fits : (n : ℕ) (p : Place) (c : ℕ) (q : Place) → 0 < n → char_at (n - 1) p ≡ Ok (c, q) → len_utf8 c ≤ n
char_fits n p c q some h = omega (arith, ((char_codec (n - 1)).takes p c q h).1.1, some)

pub chars_step : (fuel n : ℕ) (p : Place) (c : ℕ) (q : Place) → 0 < n → char_at (n - 1) p ≡ Ok (c, q)
    → (IsErr (chars_of (suc fuel) n p) → IsErr (chars_of fuel (n - len_utf8 c) q)) × ((at : ℕ) → chars_of fuel (n - len_utf8 c) q ≡ Err at → chars_of (suc fuel) n p ≡ Err at)
unfolding chars_of
chars_step fuel n p c q some h = rw (is_some n some, h) (rest (chars_of fuel (n - len_utf8 c) q))
  where
    rest : (r : Read (List ℕ)) → (IsErr (◌>>=◌ {B = List ℕ × Place} r (λ cs. Ok (c ∷ cs.0, cs.1))) → IsErr r) × ((at : ℕ) → r ≡ Err at → (◌>>=◌ {B = List ℕ × Place} r (λ cs. Ok (c ∷ cs.0, cs.1))) ≡ Err at)
    rest (Ok cs) = (λ k. absurd (cc), λ at k. absurd (cc))
    rest (Err e) = (λ k. refl, λ at k. let same : e ≡ at = cc in ap Err same)

-- a character is refused
pub chars_stop : (fuel n : ℕ) (p : Place) (at : ℕ) → 0 < n → char_at (n - 1) p ≡ Err at → chars_of (suc fuel) n p ≡ Err at
unfolding chars_of
chars_stop fuel n p at some h = rw (is_some n some, h) refl

-- no byte is left, and nothing is refused
pub chars_done : (fuel : ℕ) (p : Place) → IsErr (chars_of fuel 0 p) → ⊥
unfolding chars_of
chars_done zero p h = absurd (cc)
chars_done (suc fuel) p h = absurd (cc)

pub chars_out : (n : ℕ) (p : Place) → IsErr (chars_of 0 n p) → ⊥
unfolding chars_of
chars_out n p h = absurd (cc)

-- what a walk over the characters keeps: the rest is refused, and where it is, the whole is
pub record StopsAhead (fuel n : ℕ) (p : Place) (count : ℕ) (whole : Place) : Type 0 where
  pub refused : IsErr (chars_of fuel n p)
  pub same : (at : ℕ) → chars_of fuel n p ≡ Err at → text_of_len count whole ≡ Err at

pub ahead_begins : (count : ℕ) (whole : Place) → IsErr (text_of_len count whole) → StopsAhead count count whole count whole
ahead_begins count whole h = record { refused = chars_err count whole h; same = λ at e. text_err count whole at e }

pub ahead_step : (fuel m n : ℕ) (p : Place) (c : ℕ) (q : Place) (count : ℕ) (whole : Place) → m ≡ suc fuel → 0 < n → char_at (n - 1) p ≡ Ok (c, q)
    → StopsAhead m n p count whole → StopsAhead fuel (n - len_utf8 c) q count whole
ahead_step fuel m n p c q count whole e some h k =
    let s : StopsAhead (suc fuel) n p count whole = subst (λ (f : ℕ). StopsAhead f n p count whole) e k in
    let step = chars_step fuel n p c q some h in
    record { refused = step.0 s.refused; same = λ at f. s.same at (step.1 at f) }

pub ahead_stop : (fuel m n : ℕ) (p : Place) (at : ℕ) (count : ℕ) (whole : Place) → m ≡ suc fuel → 0 < n → char_at (n - 1) p ≡ Err at
    → StopsAhead m n p count whole → text_of_len count whole ≡ Err at
ahead_stop fuel m n p at count whole e some h k = k.same at (subst (λ (f : ℕ). chars_of f n p ≡ Err at) (sym e) (chars_stop fuel n p at some h))
