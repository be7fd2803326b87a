-- Which texts are of bytes: those of numbers, those put together of such, and those in UTF-8.
use Rattle.std.proofs.Common.{◌≡◌, ℕ, zero, suc, ◌+◌, ◌/◌, ◌<◌, ◌≤◌, Bool, true, false, cond, List, [], ◌∷◌, ◌++◌, length, IsUtf8, inl, inr, refl, subst, arith, ltb-true}
use Rattle.std.specs.Prelude.{flat_map}
use Rattle.std.specs.Int.{bytes_high_first}
use Rattle.std.specs.List.{AllByRecursion}
use Rattle.std.proofs.lemmas.Bool.{and_parts}
use lib.Dec.{ltb}
use lib.Utf8.{scalar, scalars, scalar_cases, encode, encodes, next}
use Rattle.hex.specs.Hex.{IsBytes}
use Rattle.mega_base.specs.Codec.{bytes_text, list_text, nested_text, number_text, one_byte}

-- the bytes of a text are below 256
pub record AreBytes (text : List ℕ) : Type 0 where
  pub all : IsBytes text

none_all : IsBytes []
none_all zero = omega arith
none_all (suc i) = omega arith

pub no_bytes : AreBytes []
no_bytes = record { all = none_all }

on_all : (b : ℕ) (rest : List ℕ) → b < 256 → IsBytes rest → IsBytes (b ∷ rest)
on_all b rest small bytes zero = small
on_all b rest small bytes (suc i) = bytes i

pub byte_on : {rest : List ℕ} (b : ℕ) → b < 256 → AreBytes rest → AreBytes (b ∷ rest)
byte_on {rest = rest} b small are = record { all = on_all b rest small are.all }

both_all : (xs ys : List ℕ) → IsBytes xs → IsBytes ys → IsBytes (xs ++ ys)
both_all [] ys front back = back
both_all (x ∷ xs) ys front back = on_all x (xs ++ ys) (front 0) (both_all xs ys (λ i. front (suc i)) back)

pub both_bytes : {xs ys : List ℕ} → AreBytes xs → AreBytes ys → AreBytes (xs ++ ys)
both_bytes {xs = xs} {ys = ys} front back = record { all = both_all xs ys front.all back.all }

pub byte_alone : (b : ℕ) → b ≤ 255 → AreBytes (one_byte b)
byte_alone b small = byte_on b (omega arith) no_bytes

-- ---- numbers, and texts and lists with their lengths before them

high_first : (k n : ℕ) → AreBytes (bytes_high_first k n)
high_first zero n = no_bytes
high_first (suc zero) n = byte_on _ (omega arith) no_bytes
high_first (suc (suc k)) n = byte_on _ (omega arith) (high_first (suc k) n)

pub number_bytes : (k n : ℕ) → AreBytes (number_text k n)
unfolding number_text
number_bytes k n = high_first k n

pub counted_bytes : (bytes : List ℕ) → IsBytes bytes → AreBytes (bytes_text bytes)
counted_bytes bytes all = both_bytes (number_bytes 4 (length bytes)) (record { all = all })

pub nested_bytes : {A : Type 0} (spell : A → List ℕ) (x : A) → AreBytes (spell x) → AreBytes (nested_text spell x)
nested_bytes spell x are = both_bytes (number_bytes 4 (length (spell x))) are

pub each_bytes : {A : Type 0} (spell : A → List ℕ) (Holds : A → Type 0) → ((x : A) → Holds x → AreBytes (spell x)) → (xs : List A) → AllByRecursion Holds xs → AreBytes (flat_map spell xs)
each_bytes spell Holds one [] held = no_bytes
each_bytes spell Holds one (x ∷ xs) held = both_bytes (one x held.0) (each_bytes spell Holds one xs held.1)

pub list_bytes : {A : Type 0} (spell : A → List ℕ) (Holds : A → Type 0) → ((x : A) → Holds x → AreBytes (spell x)) → (xs : List A) → AllByRecursion Holds xs → AreBytes (list_text spell xs)
list_bytes spell Holds one xs held = both_bytes (number_bytes 4 (length xs)) (each_bytes spell Holds one xs held)

-- ---- texts in UTF-8

char_bytes : (c : ℕ) → c < 1114112 → AreBytes (encode c)
unfolding encode
char_bytes c small = by (ltb c 128) refl (ltb c 2048) refl (ltb c 65536) refl
  where
    by : (x : Bool) → ltb c 128 ≡ x → (y : Bool) → ltb c 2048 ≡ y → (z : Bool) → ltb c 65536 ≡ z
        → AreBytes (cond x (c ∷ []) (cond y ((192 + c / 64) ∷ next c ∷ []) (cond z ((224 + c / 4096) ∷ next (c / 64) ∷ next c ∷ []) ((240 + c / 262144) ∷ next (c / 4096) ∷ next (c / 64) ∷ next c ∷ []))))
    by true one y _ z _ = let below : c < 128 = ltb-true c 128 one in byte_on c (omega arith) no_bytes
    by false _ true two z _ = let below : c < 2048 = ltb-true c 2048 two in byte_on _ (omega arith) (byte_on _ (omega arith) no_bytes)
    by false _ false _ true three = let below : c < 65536 = ltb-true c 65536 three in byte_on _ (omega arith) (byte_on _ (omega arith) (byte_on _ (omega arith) no_bytes))
    by false _ false _ false _ = byte_on _ (omega arith) (byte_on _ (omega arith) (byte_on _ (omega arith) (byte_on _ (omega arith) no_bytes)))

chars_bytes : (cs : List ℕ) → scalars cs ≡ true → AreBytes (encodes cs)
chars_bytes [] are = no_bytes
chars_bytes (c ∷ cs) are =
    let parts = and_parts (scalar c) (scalars cs) are in
    let small : c < 1114112 = elim (scalar_cases c parts.0) [ inl low ↦ omega arith | inr high ↦ omega arith ] in
    both_bytes (char_bytes c small) (chars_bytes cs parts.1)

pub text_bytes : (text : List ℕ) → IsUtf8 text → IsBytes text
text_bytes text is = (subst AreBytes is.1.1 (chars_bytes is.0 is.1.0)).all
