-- What was spelled is read again, whatever follows it.
use Rattle.std.proofs.Common.{◌≡◌, ℕ, zero, suc, ◌+◌, ◌-◌, ◌^◌, ◌<◌, ◌≤◌, ℤ, pos, negsuc, cond, ltb, Bool, true, false, List, [], ◌∷◌, ◌++◌, length, take, drop, refl, ap, ◌∙◌, arith, append_assoc, length-append, Result, Ok, Err, IsUtf8}
use Rattle.std.specs.Int.{Width, w32, w64, byte_len, to_be_bytes, from_be_bytes}
use Rattle.std.specs.List.{flat_map}
use Rattle.std.proofs.lemmas.Bool.{le-ltb, false≢true}
use Rattle.std.proofs.lemmas.Bool.Decides.{nat_tests}
use Rattle.std.proofs.lemmas.List.{take_at, drop_at}
use Rattle.std.proofs.lemmas.Nat.{from_be_bytes-to_be_bytes_4, from_be_bytes-to_be_bytes_8}
use Rattle.mega_base.specs.declared.values.Value.{Value}
use Rattle.mega_base.specs.declared.values.Value.TheVariants.{Int32, Int64, Bool as Truth, Str, Raw}
use Rattle.mega_base.specs.declared.values.Kind.{Kind}
use Rattle.mega_base.specs.declared.values.Kind.TheVariants as kinds
use Rattle.mega_keys.specs.Spelling.{raised, escape, escaped, bit_of, spell, spell_all}
use Rattle.mega_keys.specs.Fit.{has_kind, IsWithin, IsValue, StandIn}
use Rattle.mega_keys.specs.Reading.{Read, ◌>>=◌, number_at, lowered, int32_at, int64_at, truth_at, with_front, unescaped, raw_at, text_of, text_at, value_at, values_at}
use Rattle.mega_keys.proofs.ReadValues.{text_ok, values_cons}

pub raised_fits : (half : ℕ) (z : ℤ) → IsWithin half z → raised half z < half + half
raised_fits half (pos n) h = omega arith
raised_fits half (negsuc n) h = omega arith

pub lowered-raised : (half : ℕ) (z : ℤ) → IsWithin half z → lowered half (raised half z) ≡ z
lowered-raised half (pos n) h = ap (λ b. cond b (negsuc (half - suc (half + n))) (pos (half + n - half))) (le-ltb (half + n) half (omega arith)) ∙ ap pos (omega arith)
lowered-raised half (negsuc n) h =
    let lt : half - suc n < half = omega arith in
    let back : half - suc (half - suc n) ≡ n = omega arith in
    let yes : ltb (half - suc n) half ≡ true = grind (arith, nat_tests) in
    ap (λ b. cond b (negsuc (half - suc (half - suc n))) (pos (half - suc n - half))) yes ∙ ap negsuc back

number_again : (w : Width) (n : ℕ) (rest : List ℕ) → length (to_be_bytes w n) ≡ byte_len w → from_be_bytes w (to_be_bytes w n) ≡ n → number_at w (to_be_bytes w n ++ rest) ≡ Ok (n, rest)
number_again w n rest long back =
    let enough : byte_len w ≤ length (to_be_bytes w n ++ rest) = omega (arith, length-append (to_be_bytes w n) rest) in
    ap (λ b. cond b (Err 0) (Ok (from_be_bytes w (take (byte_len w) (to_be_bytes w n ++ rest)), drop (byte_len w) (to_be_bytes w n ++ rest)))) (le-ltb _ _ enough)
    ∙ ap (λ (x : List ℕ). Ok (from_be_bytes w x, drop (byte_len w) (to_be_bytes w n ++ rest))) (take_at (to_be_bytes w n) rest (byte_len w) long)
    ∙ ap (λ (x : List ℕ). Ok (from_be_bytes w (to_be_bytes w n), x)) (drop_at (to_be_bytes w n) rest (byte_len w) long)
    ∙ ap (λ m. Ok (m, rest)) back

int32_again : (z : ℤ) (rest : List ℕ) → IsWithin (2 ^ 31) z → int32_at (spell (Int32 z) ++ rest) ≡ Ok (Int32 z, rest)
unfolding int32_at
int32_again z rest h =
    let n = raised (2 ^ 31) z in
    let fits : n < 2 ^ 32 = omega (arith, raised_fits (2 ^ 31) z h) in
    ap (λ (r : Read ℕ). r >>= λ x. Ok (Int32 (lowered (2 ^ 31) x.0), x.1)) (number_again w32 n rest refl (from_be_bytes-to_be_bytes_4 n fits)) ∙ ap (λ y. Ok (Int32 y, rest)) (lowered-raised (2 ^ 31) z h)

int64_again : (z : ℤ) (rest : List ℕ) → IsWithin (2 ^ 63) z → int64_at (spell (Int64 z) ++ rest) ≡ Ok (Int64 z, rest)
unfolding int64_at
int64_again z rest h =
    let n = raised (2 ^ 63) z in
    let fits : n < 2 ^ 64 = omega (arith, raised_fits (2 ^ 63) z h) in
    ap (λ (r : Read ℕ). r >>= λ x. Ok (Int64 (lowered (2 ^ 63) x.0), x.1)) (number_again w64 n rest refl (from_be_bytes-to_be_bytes_8 n fits)) ∙ ap (λ y. Ok (Int64 y, rest)) (lowered-raised (2 ^ 63) z h)

pub escape-suc : (b : ℕ) → escape (suc b) ≡ suc b ∷ []
escape-suc b = grind (arith, nat_tests)

pub unescaped_again : (bytes rest : List ℕ) → unescaped (escaped bytes ++ rest) ≡ Ok (bytes, rest)
unfolding unescaped
unescaped_again [] rest = refl
unescaped_again (zero ∷ bytes) rest = ap (with_front (0 ∷ [])) (unescaped_again bytes rest)
unescaped_again (suc b ∷ bytes) rest = ap (λ e. unescaped (((e ++ flat_map escape bytes) ++ 0 ∷ 1 ∷ []) ++ rest)) (escape-suc b) ∙ ap (with_front (suc b ∷ [])) (unescaped_again bytes rest)

truth_again : (b : Bool) (rest : List ℕ) → truth_at (bit_of b ∷ rest) ≡ Ok (Truth b, rest)
unfolding truth_at
truth_again true rest = refl
truth_again false rest = refl

raw_again : (bytes rest : List ℕ) → raw_at (escaped bytes ++ rest) ≡ Ok (Raw bytes, rest)
unfolding raw_at
raw_again bytes rest = ap (λ (r : Read (List ℕ)). r >>= λ x. Ok (Raw x.0, x.1)) (unescaped_again bytes rest)

text_again : (text rest : List ℕ) → IsUtf8 text → text_at (escaped text ++ rest) ≡ Ok (Str text, rest)
unfolding text_at
text_again text rest h =
    ap (λ (r : Read (List ℕ)). r >>= λ x. text_of x.0 (length (escaped text ++ rest)) >>= λ v. Ok (v, x.1)) (unescaped_again text rest) ∙ ap (λ (r : Result Value ℕ). r >>= λ v. Ok (v, rest)) (text_ok text (length (escaped text ++ rest)) h)

pub value_again : (k : Kind) (v : Value) (rest : List ℕ) → has_kind k v ≡ true → IsValue v → value_at k (spell v ++ rest) ≡ Ok (v, rest)
value_again kinds.Int32 (Int32 z) rest e h = int32_again z rest h
value_again kinds.Int64 (Int64 z) rest e h = int64_again z rest h
value_again kinds.Bool (Truth b) rest e h = truth_again b rest
value_again kinds.Str (Str t) rest e h = text_again t rest h
value_again kinds.Raw (Raw b) rest e h = raw_again b rest
value_again _ _ rest e h = absurd (false≢true e)

pub values_again : (ks : List Kind) (vs : List Value) (rest : List ℕ) → StandIn ks vs → values_at ks (spell_all vs ++ rest) ≡ Ok (vs, rest)
unfolding values_at
values_again [] [] rest h = refl
values_again [] (v ∷ vs) rest h = absurd h
values_again (k ∷ ks) [] rest h = absurd h
values_again (k ∷ ks) (v ∷ vs) rest h =
    ap (values_at (k ∷ ks)) (append_assoc (spell v) (spell_all vs) rest) ∙ values_cons k ks v (spell v ++ (spell_all vs ++ rest)) (spell_all vs ++ rest) (value_again k v (spell_all vs ++ rest) h.0 h.1) ∙ ap (with_front (v ∷ [])) (values_again ks vs rest h.2)
