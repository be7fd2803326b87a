-- Where reading a key stops: what decides it, and that nothing read behind it matters.
use Rattle.std.proofs.Common.{◌≡◌, ◌≢◌, ℕ, zero, suc, ◌+◌, ◌-◌, ◌^◌, ◌<◌, ◌≤◌, ◌⊎◌, inl, inr, cond, eqb, ltb, Bool, true, false, List, [], ◌∷◌, ◌++◌, length, take, drop, refl, sym, ap, ◌∙◌, subst, arith, append_assoc, append-nil, length-append, take-append-drop, length-take-le, Result, Ok, Err}
use Rattle.std.specs.Prelude.{slice_index}
use Rattle.std.specs.Int.{Width, w32, w64, byte_len, from_be_bytes}
use Rattle.std.specs.List.{flat_map}
use Rattle.std.specs.Str.{is_utf8}
use Rattle.std.specs.Str.Lossy.{utf8_valid_len}
use Rattle.std.proofs.lemmas.Bool.{ltb-false}
use Rattle.std.proofs.lemmas.Bool.Decides.{nat_tests}
use Rattle.mega_base.specs.declared.values.Value.{Value}
use Rattle.mega_base.specs.declared.values.Value.TheVariants.{Int32, Int64, Bool as Truth, Str, Raw}
use Rattle.mega_base.specs.declared.values.Kind.{Kind}
use Rattle.mega_base.specs.declared.values.Kind.TheVariants as kinds
use Rattle.mega_base.specs.declared.values.Shape.{Shape}
use Rattle.mega_keys.specs.declared.fault.KeyFault.{KeyFault}
use Rattle.mega_keys.specs.declared.fault.KeyFault.TheVariants.{NotKey}
use Rattle.mega_keys.specs.Spelling.{escape, escaped, spell, spell_all, scattered, scatter_of, row_bytes}
use Rattle.mega_keys.specs.Fit.{StandIn, IsKey}
use Rattle.mega_keys.specs.Refusal.{BeginsNoKey, EndsThere, EndsBadText, IsFirstOther, EndsOtherRoot, Because, IsRefusedAt}
use Rattle.mega_keys.specs.Reading.{Read, ◌>>=◌, number_at, lowered, int32_at, int64_at, truth_at, with_front, unescaped, raw_at, text_of, text_at, value_at, values_at, byte_at, marks_at, agree, root_at, key_front_at, key_at, answer_of, read_key_of}
use Rattle.mega_keys.proofs.Again.{unescaped_again, value_again, values_again}
use Rattle.mega_keys.proofs.Takes.{IsBytes, IsBytes-after, unescaped_takes, value_takes, values_take}
use Rattle.std.proofs.lemmas.List.{take_all}
use Rattle.mega_keys.proofs.Keys.{root_again, root_takes, byte_again, byte_takes, key_front_again, key_front_takes}

abbrev pub Fails : {A : Type 0} → Result A ℕ → Type 0
Fails (Ok x) = ⊥
Fails (Err n) = Unit {0}

-- reading stops with so many bytes left from the one that cannot stand: what decides it, and why
pub record Halts {A : Type 0} (r : List ℕ → Result A ℕ) (bytes : List ℕ) (n : ℕ) : Type 0 where
  pub front : List ℕ
  pub back : List ℕ
  pub at : ℕ
  pub split : bytes ≡ front ++ back
  pub fails : (tail : List ℕ) → Fails (r (front ++ tail))
  pub place : at + n ≡ length bytes
  pub because : Because front at

-- the same behind other bytes
because_behind : (used front : List ℕ) (at : ℕ) → Because front at → Because (used ++ front) (length used + at)
because_behind used front at (inl e) = inl (omega (arith, e, length-append used front))
because_behind used front at (inr (inl t)) = inr (inl (record {
  before = used ++ t.before;
  text = t.text;
  spelled = ap (λ x. used ++ x) t.spelled ∙ sym (append_assoc used t.before (escaped t.text));
  no_text = t.no_text;
  place = omega (arith, t.place, length-append used t.before);
}))
because_behind used front at (inr (inr t)) = inr (inr (record {
  before = used ++ t.before;
  first = t.first;
  second = t.second;
  root = t.root;
  which = t.which;
  spelled = ap (λ x. used ++ x) t.spelled ∙ sym (append_assoc used t.before (t.first ∷ t.second ∷ spell_all t.root));
  other = t.other;
  place = omega (arith, t.place, length-append used t.before);
}))

fails_on : {A B : Type 0} (r : Result A ℕ) (f : A → Result B ℕ) → Fails r → Fails (r >>= f)
fails_on (Ok x) f h = absurd h
fails_on (Err n) f h = tt

fails_by : {A : Type 0} (r s : Result A ℕ) → r ≡ s → Fails s → Fails r
fails_by {A} r s e h = let P : Result A ℕ → Type 0 = λ x. Fails x in subst P (sym e) h

-- it stops in its first part
halts_first : {A B : Type 0} (r : List ℕ → Result A ℕ) (f : A → Result B ℕ) (bytes : List ℕ) (n : ℕ) → Halts r bytes n → Halts (λ b. r b >>= f) bytes n
halts_first r f bytes n h = record { front = h.front; back = h.back; at = h.at; split = h.split; fails = λ tail. fails_on (r (h.front ++ tail)) f (h.fails tail); place = h.place; because = h.because }

-- it stops behind what was read
halts_behind : {A B : Type 0} (r : List ℕ → Result A ℕ) (f : A → Result B ℕ) (g : List ℕ → Result B ℕ) (bytes used rest : List ℕ) (n : ℕ) → bytes ≡ used ++ rest → ((tail : List ℕ) → (r (used ++ tail) >>= f) ≡ g tail) → Halts g rest n → Halts (λ b. r b >>= f) bytes n
halts_behind r f g bytes used rest n e same h = record {
  front = used ++ h.front;
  back = h.back;
  at = length used + h.at;
  split = e ∙ ap (λ x. used ++ x) h.split ∙ sym (append_assoc used h.front h.back);
  fails = λ tail. fails_by (r ((used ++ h.front) ++ tail) >>= f) (g (h.front ++ tail)) (ap (λ b. r b >>= f) (append_assoc used h.front tail) ∙ same (h.front ++ tail)) (h.fails tail);
  place = omega (arith, h.place, ap length e, length-append used rest);
  because = because_behind used h.front h.at h.because;
}

-- one byte that cannot stand
halts_here : {A : Type 0} (r : List ℕ → Result A ℕ) (b : ℕ) (rest : List ℕ) → ((tail : List ℕ) → Fails (r (b ∷ tail))) → Halts r (b ∷ rest) (suc (length rest))
halts_here r b rest h = record { front = b ∷ []; back = rest; at = 0; split = refl; fails = h; place = omega arith; because = inl (omega arith) }

bind_err : {A B : Type 0} (r : Result A ℕ) (f : A → Result B ℕ) (n : ℕ) → (r >>= f) ≡ Err n → (r ≡ Err n) ⊎ ((x : A) × (r ≡ Ok x) × (f x ≡ Err n))
bind_err (Ok x) f n h = inr (x, refl, h)
bind_err (Err m) f n h = inl (let e : m ≡ n = cc in ap (λ k. Err k) e)

-- ---- values
number_never : (w : Width) (bytes : List ℕ) (n : ℕ) → number_at w bytes ≡ Err (suc n) → ⊥
number_never w bytes n h = by (ltb (length bytes) (byte_len w)) h
  where
    by : (b : Bool) → cond {A = Read ℕ} b (Err 0) (Ok (from_be_bytes w (take (byte_len w) bytes), drop (byte_len w) bytes)) ≡ Err (suc n) → ⊥
    by true g = let e : 0 ≡ suc n = cc in omega (arith, e)
    by false g = cc

int32_never : (bytes : List ℕ) (n : ℕ) → int32_at bytes ≡ Err (suc n) → ⊥
unfolding int32_at
int32_never bytes n h = elim (bind_err (number_at w32 bytes) (λ x. Ok (Int32 (lowered (2 ^ 31) x.0), x.1)) (suc n) h) [ inl e ↦ number_never w32 bytes n e | inr x ↦ (let no = x.2 in cc) ]

int64_never : (bytes : List ℕ) (n : ℕ) → int64_at bytes ≡ Err (suc n) → ⊥
unfolding int64_at
int64_never bytes n h = elim (bind_err (number_at w64 bytes) (λ x. Ok (Int64 (lowered (2 ^ 63) x.0), x.1)) (suc n) h) [ inl e ↦ number_never w64 bytes n e | inr x ↦ (let no = x.2 in cc) ]

truth_halts : (bytes : List ℕ) (n : ℕ) → truth_at bytes ≡ Err (suc n) → Halts truth_at bytes (suc n)
unfolding truth_at
truth_halts [] n h = absurd (let e : 0 ≡ suc n = cc in omega (arith, e))
truth_halts (b ∷ rest) n h = by (eqb b 0) (eqb b 1) refl refl h
  where
    by : (s t : Bool) → eqb b 0 ≡ s → eqb b 1 ≡ t → cond {A = Read Value} s (Ok (Truth false, rest)) (cond t (Ok (Truth true, rest)) (Err (suc (length rest)))) ≡ Err (suc n) → Halts truth_at (b ∷ rest) (suc n)
    by true t e f g = absurd (cc)
    by false true e f g = absurd (cc)
    by false false e f g =
        let left : suc (length rest) ≡ suc n = cc in
        subst (λ k. Halts truth_at (b ∷ rest) k) left (halts_here truth_at b rest (λ tail. fails_by (truth_at (b ∷ tail)) (Err (suc (length tail))) (λ i. cond {A = Read Value} (e i) (Ok (Truth false, tail)) (cond (f i) (Ok (Truth true, tail)) (Err (suc (length tail))))) tt))

with_front_err : (front : List ℕ) (r : Read (List ℕ)) (n : ℕ) → with_front front r ≡ Err n → r ≡ Err n
with_front_err front (Ok x) n h = absurd (cc)
with_front_err front (Err m) n h = let e : m ≡ n = cc in ap (λ k. Err k) e

with_front_fails : (front : List ℕ) (r : Read (List ℕ)) → Fails r → Fails (with_front front r)
with_front_fails front (Ok x) h = absurd h
with_front_fails front (Err n) h = tt

-- escaped bytes, one of which was read
unescaped_behind : (used : List ℕ) (b : ℕ) (rest : List ℕ) (n : ℕ) → ((tail : List ℕ) → unescaped (used ++ tail) ≡ with_front (b ∷ []) (unescaped tail)) → Halts unescaped rest n → Halts unescaped (used ++ rest) n
unescaped_behind used b rest n same h = record {
  front = used ++ h.front;
  back = h.back;
  at = length used + h.at;
  split = ap (λ x. used ++ x) h.split ∙ sym (append_assoc used h.front h.back);
  fails = λ tail. fails_by (unescaped ((used ++ h.front) ++ tail)) (with_front (b ∷ []) (unescaped (h.front ++ tail))) (ap unescaped (append_assoc used h.front tail) ∙ same (h.front ++ tail)) (with_front_fails (b ∷ []) (unescaped (h.front ++ tail)) (h.fails tail));
  place = omega (arith, h.place, length-append used rest);
  because = because_behind used h.front h.at h.because;
}

-- the byte behind a zero is neither of the two that may stand there
zero_halts : (c : ℕ) (rest : List ℕ) → eqb c 255 ≡ false → eqb c 1 ≡ false → Halts unescaped (0 ∷ c ∷ rest) (suc (length rest))
unfolding unescaped
zero_halts c rest e f = record {
  front = 0 ∷ c ∷ [];
  back = rest;
  at = 1;
  split = refl;
  fails = λ tail. fails_by (unescaped (0 ∷ c ∷ tail)) (Err (suc (length tail))) (λ i. cond {A = Read (List ℕ)} (e i) (with_front (0 ∷ []) (unescaped tail)) (cond (f i) (Ok ([], tail)) (Err (suc (length tail))))) tt;
  place = omega arith;
  because = inl (omega arith);
}

unescaped_halts : (bytes : List ℕ) (n : ℕ) → unescaped bytes ≡ Err (suc n) → Halts unescaped bytes (suc n)
unfolding unescaped
unescaped_halts [] n h = absurd (let e : 0 ≡ suc n = cc in omega (arith, e))
unescaped_halts (zero ∷ []) n h = absurd (let e : 0 ≡ suc n = cc in omega (arith, e))
unescaped_halts (zero ∷ c ∷ rest) n h = by (eqb c 255) (eqb c 1) refl refl (λ g. unescaped_halts rest n g) h
  where
    by : (s t : Bool) → eqb c 255 ≡ s → eqb c 1 ≡ t → (unescaped rest ≡ Err (suc n) → Halts unescaped rest (suc n)) → cond {A = Read (List ℕ)} s (with_front (0 ∷ []) (unescaped rest)) (cond t (Ok ([], rest)) (Err (suc (length rest)))) ≡ Err (suc n) → Halts unescaped (zero ∷ c ∷ rest) (suc n)
    by true t e f ih g = unescaped_behind (0 ∷ c ∷ []) 0 rest (suc n) (λ tail. ap (λ s. cond {A = Read (List ℕ)} s (with_front (0 ∷ []) (unescaped tail)) (cond (eqb c 1) (Ok ([], tail)) (Err (suc (length tail))))) e) (ih (with_front_err (0 ∷ []) (unescaped rest) (suc n) g))
    by false true e f ih g = absurd (cc)
    by false false e f ih g = let left : suc (length rest) ≡ suc n = cc in subst (λ k. Halts unescaped (0 ∷ c ∷ rest) k) left (zero_halts c rest e f)
unescaped_halts (suc b ∷ rest) n h = unescaped_behind (suc b ∷ []) (suc b) rest (suc n) (λ tail. refl) (unescaped_halts rest n (with_front_err (suc b ∷ []) (unescaped rest) (suc n) h))

raw_halts : (bytes : List ℕ) (n : ℕ) → raw_at bytes ≡ Err (suc n) → Halts raw_at bytes (suc n)
unfolding raw_at
raw_halts bytes n h = elim (bind_err (unescaped bytes) (λ x. Ok (Raw x.0, x.1)) (suc n) h) [
  | inl e ↦ halts_first unescaped (λ x. Ok (Raw x.0, x.1)) bytes (suc n) (unescaped_halts bytes n e)
  | inr x ↦ absurd (let no = x.2 in cc)
]

-- bytes that are no text
text_err : (found : List ℕ) (m n : ℕ) → text_of found m ≡ Err n → (is_utf8 found ≡ false) × (n ≡ m - length (flat_map escape (take (utf8_valid_len found) found)))
unfolding text_of
text_err found m n h = by (is_utf8 found) refl h
  where
    by : (b : Bool) → is_utf8 found ≡ b → cond {A = Result Value ℕ} b (Ok (Str found)) (Err (m - length (flat_map escape (take (utf8_valid_len found) found)))) ≡ Err n → (is_utf8 found ≡ false) × (n ≡ m - length (flat_map escape (take (utf8_valid_len found) found)))
    by true e g = absurd (cc)
    by false e g = (e, let same : m - length (flat_map escape (take (utf8_valid_len found) found)) ≡ n = cc in sym same)

text_fails_on : (found : List ℕ) (m : ℕ) → is_utf8 found ≡ false → Fails (text_of found m)
unfolding text_of
text_fails_on found m e = fails_by (text_of found m) (Err (m - length (flat_map escape (take (utf8_valid_len found) found)))) (ap (λ b. cond {A = Result Value ℕ} b (Ok (Str found)) (Err (m - length (flat_map escape (take (utf8_valid_len found) found))))) e) tt

abbrev told : List ℕ → List ℕ × List ℕ → Read Value
told bytes x = text_of x.0 (length bytes) >>= λ v. Ok (v, x.1)

text_halts : (bytes : List ℕ) (n : ℕ) → text_at bytes ≡ Err (suc n) → Halts text_at bytes (suc n)
unfolding text_at
text_halts bytes n h = elim (bind_err (unescaped bytes) (told bytes) (suc n) h) [ inl e ↦ unread (unescaped_halts bytes n e) | inr x ↦ no_text x.0.0 x.0.1 x.1 x.2 ]
  where
    unread : Halts unescaped bytes (suc n) → Halts text_at bytes (suc n)
    unread u = record { front = u.front; back = u.back; at = u.at; split = u.split; fails = λ tail. fails_on (unescaped (u.front ++ tail)) (told (u.front ++ tail)) (u.fails tail); place = u.place; because = u.because }

    no_text : (found rest : List ℕ) → unescaped bytes ≡ Ok (found, rest) → told bytes (found, rest) ≡ Err (suc n) → Halts text_at bytes (suc n)
    no_text found rest e g = elim (bind_err (text_of found (length bytes)) (λ v. Ok (v, rest)) (suc n) g) [
      | inl t ↦
          (let bad = text_err found (length bytes) (suc n) t in
          let at = length (flat_map escape (take (utf8_valid_len found) found)) in
          let zero_before : at ≡ 0 + at = omega arith in
          record {
            front = escaped found;
            back = rest;
            at = at;
            split = unescaped_takes bytes found rest e;
            fails = λ tail. fails_by (text_at (escaped found ++ tail)) (told (escaped found ++ tail) (found, tail)) (ap (λ (r : Read (List ℕ)). r >>= told (escaped found ++ tail)) (unescaped_again found tail)) (fails_on (text_of found (length (escaped found ++ tail))) (λ v. Ok (v, tail)) (text_fails_on found (length (escaped found ++ tail)) bad.0));
            place = omega (arith, bad.1);
            because = inr (inl (record { before = []; text = found; spelled = refl; no_text = bad.0; place = zero_before }));
          })
      | inr x ↦ absurd (let no = x.2 in cc)
    ]

value_halts : (k : Kind) (bytes : List ℕ) (n : ℕ) → value_at k bytes ≡ Err (suc n) → Halts (value_at k) bytes (suc n)
value_halts kinds.Int32 bytes n h = absurd (int32_never bytes n h)
value_halts kinds.Int64 bytes n h = absurd (int64_never bytes n h)
value_halts kinds.Bool bytes n h = truth_halts bytes n h
value_halts kinds.Str bytes n h = text_halts bytes n h
value_halts kinds.Raw bytes n h = raw_halts bytes n h

abbrev first_of : List Kind → Value × List ℕ → Read (List Value)
first_of ks first = values_at ks first.1 >>= λ more. Ok (first.0 ∷ more.0, more.1)

values_halt : (ks : List Kind) (bytes : List ℕ) (n : ℕ) → IsBytes bytes → values_at ks bytes ≡ Err (suc n) → Halts (values_at ks) bytes (suc n)
unfolding values_at
values_halt [] bytes n fits h = absurd (cc)
values_halt (k ∷ ks) bytes n fits h = elim (bind_err (value_at k bytes) (first_of ks) (suc n) h) [
  | inl e ↦ halts_first (value_at k) (first_of ks) bytes (suc n) (value_halts k bytes n e)
  | inr x ↦
      (let v = x.0.0 in
      let rest = x.0.1 in
      let read = value_takes k bytes v rest fits x.1 in
      let behind = later v rest (IsBytes-after bytes (spell v) rest read.spelled fits) x.2 (λ b g. values_halt ks rest n b g) in
      halts_behind (value_at k) (first_of ks) (λ b. first_of ks (v, b)) bytes (spell v) rest (suc n) read.spelled (λ tail. ap (λ (r : Read Value). r >>= first_of ks) (value_again k v tail read.kind read.value)) behind)
]
  where
    later : (v : Value) (rest : List ℕ) → IsBytes rest → first_of ks (v, rest) ≡ Err (suc n) → (IsBytes rest → values_at ks rest ≡ Err (suc n) → Halts (values_at ks) rest (suc n)) → Halts (λ b. first_of ks (v, b)) rest (suc n)
    later v rest b g ih = elim (bind_err (values_at ks rest) (λ more. Ok (v ∷ more.0, more.1)) (suc n) g) [
      | inl e ↦ halts_first (values_at ks) (λ more. Ok (v ∷ more.0, more.1)) rest (suc n) (ih b e)
      | inr x ↦ absurd (let no = x.2 in cc)
    ]

-- ---- the parts of a key
byte_halts : (b : ℕ) (bytes : List ℕ) (n : ℕ) → byte_at b bytes ≡ Err (suc n) → Halts (byte_at b) bytes (suc n)
unfolding byte_at
byte_halts b [] n h = absurd (let e : 0 ≡ suc n = cc in omega (arith, e))
byte_halts b (c ∷ rest) n h = by (eqb c b) refl h
  where
    by : (t : Bool) → eqb c b ≡ t → cond {A = Result (List ℕ) ℕ} t (Ok rest) (Err (suc (length rest))) ≡ Err (suc n) → Halts (byte_at b) (c ∷ rest) (suc n)
    by true e g = absurd (cc)
    by false e g =
        let left : suc (length rest) ≡ suc n = cc in
        subst (λ k. Halts (byte_at b) (c ∷ rest) k) left (halts_here (byte_at b) c rest (λ tail. fails_by (byte_at b (c ∷ tail)) (Err (suc (length tail))) (ap (λ t. cond {A = Result (List ℕ) ℕ} t (Ok tail) (Err (suc (length tail)))) e) tt))

-- which of the two bytes is refused
record OtherMark (a b : ℕ) (root : List Value) (m n : ℕ) : Type 0 where
  which : ℕ
  other : IsFirstOther a b root which
  place : which + n ≡ m
  fails : (k : ℕ) → Fails (agree (a ∷ b ∷ []) (scattered root) k)

agree_halts : (a b : ℕ) (root : List Value) (m n : ℕ) → agree (a ∷ b ∷ []) (scattered root) m ≡ Err (suc n) → OtherMark a b root m (suc n)
unfolding agree
agree_halts a b root m n h = by (eqb a (slice_index (scattered root) 0)) (eqb b (slice_index (scattered root) 1)) refl refl h
  where
    by : (s t : Bool) → eqb a (slice_index (scattered root) 0) ≡ s → eqb b (slice_index (scattered root) 1) ≡ t → cond {A = Result (Unit {0}) ℕ} s (cond t (Ok tt) (Err (m - 1))) (Err m) ≡ Err (suc n) → OtherMark a b root m (suc n)
    by true true e f g = absurd (cc)
    by true false e f g =
        let left : m - 1 ≡ suc n = cc in
        let same : a ≡ slice_index (scattered root) 0 = grind (arith, nat_tests) in
        let apart : b ≢ slice_index (scattered root) 1 = grind (arith, nat_tests) in
        record {
          which = 1;
          other = inr (refl, same, apart);
          place = omega (arith, left);
          fails = λ k. fails_by (agree (a ∷ b ∷ []) (scattered root) k) (Err (k - 1)) (λ i. cond {A = Result (Unit {0}) ℕ} (e i) (cond (f i) (Ok tt) (Err (k - 1))) (Err k)) tt;
        }
    by false t e f g =
        let left : m ≡ suc n = cc in
        let apart : a ≢ slice_index (scattered root) 0 = grind (arith, nat_tests) in
        record {
          which = 0;
          other = inl (refl, apart);
          place = omega (arith, left);
          fails = λ k. fails_by (agree (a ∷ b ∷ []) (scattered root) k) (Err k) (ap (λ s. cond {A = Result (Unit {0}) ℕ} s (cond (eqb b (slice_index (scattered root) 1)) (Ok tt) (Err (k - 1))) (Err k)) e) tt;
        }

abbrev agreed : ℕ → ℕ → ℕ → List Value × List ℕ → Read (List Value)
agreed a b m root = agree (a ∷ b ∷ []) (scattered root.0) m >>= λ _. Ok root

root_halts : (s : Bool) (ks : List Kind) (bytes : List ℕ) (n : ℕ) → IsBytes bytes → root_at s ks bytes ≡ Err (suc n) → Halts (root_at s ks) bytes (suc n)
unfolding root_at marks_at
root_halts false ks bytes n fits h = let v = values_halt ks bytes n fits h in record { front = v.front; back = v.back; at = v.at; split = v.split; fails = v.fails; place = v.place; because = v.because }
root_halts true ks [] n fits h = absurd (let e : 0 ≡ suc n = cc in omega (arith, e))
root_halts true ks (a ∷ []) n fits h = absurd (let e : 0 ≡ suc n = cc in omega (arith, e))
root_halts true ks (a ∷ b ∷ marked) n fits h = elim (bind_err (values_at ks marked) (agreed a b (length (a ∷ b ∷ marked))) (suc n) h) [
  | inl e ↦ unread (values_halt ks marked n (λ i. fits (suc (suc i))) e)
  | inr x ↦ differ x.0.0 x.0.1 x.1 x.2
]
  where
    unread : Halts (values_at ks) marked (suc n) → Halts (root_at true ks) (a ∷ b ∷ marked) (suc n)
    unread v = record {
      front = a ∷ b ∷ v.front;
      back = v.back;
      at = 2 + v.at;
      split = ap (λ x. a ∷ b ∷ x) v.split;
      fails = λ tail. fails_on (values_at ks (v.front ++ tail)) (agreed a b (length (a ∷ b ∷ (v.front ++ tail)))) (v.fails tail);
      place = omega (arith, v.place);
      because = because_behind (a ∷ b ∷ []) v.front v.at v.because;
    }

    differ : (root : List Value) (rest : List ℕ) → values_at ks marked ≡ Ok (root, rest) → agreed a b (length (a ∷ b ∷ marked)) (root, rest) ≡ Err (suc n) → Halts (root_at true ks) (a ∷ b ∷ marked) (suc n)
    differ root rest e g = elim (bind_err (agree (a ∷ b ∷ []) (scattered root) (length (a ∷ b ∷ marked))) (λ _. Ok (root, rest)) (suc n) g) [
      | inl t ↦
          (let mark = agree_halts a b root (length (a ∷ b ∷ marked)) n t in
          let read = values_take ks marked root rest (λ i. fits (suc (suc i))) e in
          let which_at : mark.which ≡ 0 + mark.which = omega arith in
          record {
            front = a ∷ b ∷ spell_all root;
            back = rest;
            at = mark.which;
            split = ap (λ x. a ∷ b ∷ x) read.spelled;
            fails = λ tail. fails_by (root_at true ks (a ∷ b ∷ (spell_all root ++ tail))) (agreed a b (length (a ∷ b ∷ (spell_all root ++ tail))) (root, tail)) (ap (λ (r : Read (List Value)). r >>= agreed a b (length (a ∷ b ∷ (spell_all root ++ tail)))) (values_again ks root tail read.stand)) (fails_on (agree (a ∷ b ∷ []) (scattered root) (length (a ∷ b ∷ (spell_all root ++ tail)))) (λ _. Ok (root, tail)) (mark.fails (length (a ∷ b ∷ (spell_all root ++ tail)))));
            place = mark.place;
            because = inr (inr (record { before = []; first = a; second = b; root = root; which = mark.which; spelled = refl; other = mark.other; place = which_at }));
          })
      | inr x ↦ absurd (let no = x.2 in cc)
    ]

-- ---- a whole key
abbrev joined_with : List Value → List Value × List ℕ → Read (List Value)
joined_with root rest = Ok (root ++ rest.0, rest.1)

abbrev rest_on : Shape → List Value → List ℕ → Read (List Value)
rest_on shape root bytes = values_at shape.rest_kinds bytes >>= joined_with root

abbrev table_on : Shape → List Value × List ℕ → Read (List Value)
table_on shape root = byte_at shape.table root.1 >>= rest_on shape root.0

abbrev root_on : Shape → List ℕ → Read (List Value)
root_on shape head = root_at shape.scatter shape.root_kinds head >>= table_on shape

module _ (shape : Shape) where
  rest_halts : (root : List Value) (bytes : List ℕ) (n : ℕ) → IsBytes bytes → rest_on shape root bytes ≡ Err (suc n) → Halts (rest_on shape root) bytes (suc n)
  rest_halts root bytes n fits h = elim (bind_err (values_at shape.rest_kinds bytes) (joined_with root) (suc n) h) [
    | inl e ↦ halts_first (values_at shape.rest_kinds) (joined_with root) bytes (suc n) (values_halt shape.rest_kinds bytes n fits e)
    | inr x ↦ absurd (let no = x.2 in cc)
  ]

  table_halts : (root : List Value) (bytes : List ℕ) (n : ℕ) → IsBytes bytes → table_on shape (root, bytes) ≡ Err (suc n) → Halts (λ b. table_on shape (root, b)) bytes (suc n)
  table_halts root bytes n fits h = elim (bind_err (byte_at shape.table bytes) (rest_on shape root) (suc n) h) [
    | inl e ↦ halts_first (byte_at shape.table) (rest_on shape root) bytes (suc n) (byte_halts shape.table bytes n e)
    | inr x ↦
        (let first = byte_takes shape.table bytes x.0 x.1 in
        halts_behind (byte_at shape.table) (rest_on shape root) (rest_on shape root) bytes (shape.table ∷ []) x.0 (suc n) first (λ tail. ap (λ (r : Result (List ℕ) ℕ). r >>= rest_on shape root) (byte_again shape.table tail)) (rest_halts root x.0 n (IsBytes-after bytes (shape.table ∷ []) x.0 first fits) x.2))
  ]

  behind_halts : (bytes : List ℕ) (n : ℕ) → IsBytes bytes → root_on shape bytes ≡ Err (suc n) → Halts (root_on shape) bytes (suc n)
  behind_halts bytes n fits h = elim (bind_err (root_at shape.scatter shape.root_kinds bytes) (table_on shape) (suc n) h) [
    | inl e ↦ halts_first (root_at shape.scatter shape.root_kinds) (table_on shape) bytes (suc n) (root_halts shape.scatter shape.root_kinds bytes n fits e)
    | inr x ↦
        (let root = x.0.0 in
        let rest = x.0.1 in
        let read = root_takes shape.scatter shape.root_kinds bytes root rest fits x.1 in
        let used = scatter_of shape.scatter root ++ spell_all root in
        halts_behind (root_at shape.scatter shape.root_kinds) (table_on shape) (λ b. table_on shape (root, b)) bytes used rest (suc n) read.spelled (λ tail. ap (λ (r : Read (List Value)). r >>= table_on shape) (root_again shape.scatter shape.root_kinds root tail read.stand)) (table_halts root rest n (IsBytes-after bytes used rest read.spelled fits) x.2))
  ]

  front_halts : (bytes : List ℕ) (n : ℕ) → IsBytes bytes → key_front_at shape bytes ≡ Err (suc n) → Halts (key_front_at shape) bytes (suc n)
  unfolding key_front_at
  front_halts bytes n fits h = elim (bind_err (byte_at shape.space bytes) (root_on shape) (suc n) h) [
    | inl e ↦ halts_first (byte_at shape.space) (root_on shape) bytes (suc n) (byte_halts shape.space bytes n e)
    | inr x ↦
        (let first = byte_takes shape.space bytes x.0 x.1 in
        halts_behind (byte_at shape.space) (root_on shape) (root_on shape) bytes (shape.space ∷ []) x.0 (suc n) first (λ tail. ap (λ (r : Result (List ℕ) ℕ). r >>= root_on shape) (byte_again shape.space tail)) (behind_halts x.0 n (IsBytes-after bytes (shape.space ∷ []) x.0 first fits) x.2))
  ]

  abbrev ended : List Value × List ℕ → Result (List Value) ℕ
  ended key = cond (eqb (length key.1) 0) (Ok key.0) (Err (length key.1))

  not_ended : (vs : List Value) (b : ℕ) (rest : List ℕ) → ended (vs, b ∷ rest) ≡ Err (suc (length rest))
  not_ended vs b rest = let some : eqb (suc (length rest)) 0 ≡ false = grind (arith, nat_tests) in ap (λ t. cond {A = Result (List Value) ℕ} t (Ok vs) (Err (suc (length rest)))) some

  end_halts : (vs : List Value) (rest : List ℕ) (n : ℕ) → ended (vs, rest) ≡ Err (suc n) → Halts (λ b. ended (vs, b)) rest (suc n)
  end_halts vs [] n h = absurd (cc)
  end_halts vs (b ∷ rest) n h =
      let ends = sym (not_ended vs b rest) ∙ h in
      let left : suc (length rest) ≡ suc n = cc in
      subst (λ k. Halts (λ x. ended (vs, x)) (b ∷ rest) k) left (halts_here (λ x. ended (vs, x)) b rest (λ tail. fails_by (ended (vs, b ∷ tail)) (Err (suc (length tail))) (not_ended vs b tail) tt))

  key_halts : (bytes : List ℕ) (n : ℕ) → IsBytes bytes → key_at shape bytes ≡ Err (suc n) → Halts (key_at shape) bytes (suc n)
  unfolding key_at
  key_halts bytes n fits h = elim (bind_err (key_front_at shape bytes) ended (suc n) h) [
    | inl e ↦ halts_first (key_front_at shape) ended bytes (suc n) (front_halts bytes n fits e)
    | inr x ↦
        (let vs = x.0.0 in
        let rest = x.0.1 in
        let read = key_front_takes shape bytes vs rest fits x.1 in
        halts_behind (key_front_at shape) ended (λ b. ended (vs, b)) bytes (row_bytes shape vs) rest (suc n) read.spelled (λ tail. ap (λ (r : Read (List Value)). r >>= ended) (key_front_again shape vs tail read.stand)) (end_halts vs rest n x.2))
  ]

  -- a key is read
  key_read : (bytes : List ℕ) (vs : List Value) → IsKey shape bytes vs → key_at shape bytes ≡ Ok vs
  unfolding key_at
  key_read bytes vs is = ap (λ (r : Read (List Value)). r >>= ended) (ap (key_front_at shape) (is.spelled ∙ sym (append-nil (row_bytes shape vs))) ∙ key_front_again shape vs [] is.stand)

  fails_no_key : (bytes : List ℕ) → Fails (key_at shape bytes) → (vs : List Value) → IsKey shape bytes vs → ⊥
  fails_no_key bytes h vs is = let P : Result (List Value) ℕ → Type 0 = λ r. Fails r in subst P (key_read bytes vs is) h

  -- bytes behind the 1,024th
  too_long : (key : List ℕ) (at : ℕ) → 1024 < length key → 1024 ≡ at → IsRefusedAt shape key at
  too_long key at long is =
      let front = length-take-le 1025 key (omega (arith, long)) in
      record {
        front = take 1025 key;
        back = drop 1025 key;
        split = sym (take-append-drop 1025 key);
        never = λ values tail h. omega (arith, h.short, length-append (take 1025 key) tail, front);
        because = inl (omega (arith, front, is));
      }

  take_bytes : (k : ℕ) (bytes : List ℕ) → IsBytes bytes → IsBytes (take k bytes)
  take_bytes zero bytes h i = omega arith
  take_bytes (suc k) [] h i = h i
  take_bytes (suc k) (b ∷ bytes) h zero = h 0
  take_bytes (suc k) (b ∷ bytes) h (suc i) = take_bytes k bytes (λ j. h (suc j)) i

  at_of : (key : List ℕ) (k at : ℕ) → answer_of key (Err k) ≡ Err (NotKey at) → length (take 1024 key) - k ≡ at
  at_of key k at h = cc

  pub refused : (key : List ℕ) (at : ℕ) → IsBytes key → at < length key → read_key_of shape key ≡ Err (NotKey at) → IsRefusedAt shape key at
  refused key at fits within h = by (key_at shape (take 1024 key)) refl h
    where
      by : (r : Result (List Value) ℕ) → key_at shape (take 1024 key) ≡ r → answer_of key r ≡ Err (NotKey at) → IsRefusedAt shape key at
      by (Ok vs) e g = over (ltb 1024 (length key)) refl g
        where
          over : (b : Bool) → ltb 1024 (length key) ≡ b → cond {A = Result (List Value) KeyFault} b (Err (NotKey 1024)) (Ok vs) ≡ Err (NotKey at) → IsRefusedAt shape key at
          over true f k = let long : 1024 < length key = grind (arith, nat_tests) in let is : 1024 ≡ at = cc in too_long key at long is
          over false f k = absurd (cc)
      by (Err zero) e g =
          let is = at_of key 0 at g in
          let cut : length (take 1024 key) < length key = omega (arith, is, within) in
          cases (ltb 1024 (length key)) refl is cut
        where
          cases : (b : Bool) → ltb 1024 (length key) ≡ b → length (take 1024 key) - 0 ≡ at → length (take 1024 key) < length key → IsRefusedAt shape key at
          cases true f is cut = let long : 1024 < length key = grind (arith, nat_tests) in too_long key at long (omega (arith, is, length-take-le 1024 key (omega (arith, long))))
          cases false f is cut = absurd (let short : length key ≤ 1024 = ltb-false 1024 (length key) f in omega (arith, cut, ap length (take_all 1024 key short)))
      by (Err (suc n)) e g =
          let halts = key_halts (take 1024 key) n (take_bytes 1024 key fits) e in
          let is = at_of key (suc n) at g in
          let same : halts.at ≡ at = omega (arith, is, halts.place) in
          record {
            front = halts.front;
            back = halts.back ++ drop 1024 key;
            split = sym (take-append-drop 1024 key) ∙ ap (λ x. x ++ drop 1024 key) halts.split ∙ append_assoc halts.front halts.back (drop 1024 key);
            never = λ values tail h. fails_no_key (halts.front ++ tail) (halts.fails tail) values h;
            because = subst (Because halts.front) same halts.because;
          }
