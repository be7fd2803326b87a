-- What was read was spelled so.
use Rattle.std.proofs.Common.{◌≡◌, ℕ, zero, suc, ◌+◌, ◌-◌, ◌^◌, ◌<◌, ◌≤◌, pos, negsuc, cond, ltb, eqb, Bool, true, false, List, [], ◌∷◌, ◌++◌, length, take, drop, get_or, refl, sym, ap, ◌∙◌, subst, arith, append_assoc, length-take-le, take-append-drop, get_or-drop, Result, Ok, Err, IsUtf8}
use Rattle.std.specs.Int.{Width, w32, w64, byte_len, to_be_bytes, from_be_bytes}
use Rattle.std.specs.List.{flat_map}
use Rattle.std.specs.Str.{is_utf8}
use Rattle.std.proofs.lemmas.Bool.{ltb-false}
use Rattle.std.proofs.lemmas.Bool.Decides.{nat_tests}
use Rattle.std.proofs.lemmas.List.{drop_at}
use Rattle.std.proofs.lemmas.Nat.{be_bytes_4, be_bytes_8}
use Rattle.std.proofs.lemmas.Str.{IsUtf8-from_is_utf8}
use Rattle.mega_base.specs.declared.values.Value.{Value}
use Rattle.mega_base.specs.declared.values.Value.TheVariants.{Int32, Int64, Bool as Truth, Str, Raw}
use Rattle.mega_base.specs.declared.values.Kind.{Kind}
use Rattle.mega_base.specs.declared.values.Kind.TheVariants as kinds
use Rattle.mega_keys.specs.Spelling.{raised, escape, escaped, spell, spell_all}
use Rattle.mega_keys.specs.Fit.{has_kind, IsWithin, IsValue, StandIn}
use Rattle.mega_keys.specs.Reading.{Read, ◌>>=◌, number_at, lowered, int32_at, int64_at, truth_at, with_front, unescaped, raw_at, text_of, text_at, value_at, values_at}
use Rattle.mega_keys.proofs.Again.{escape-suc}

abbrev pub IsBytes : List ℕ → Type 0
IsBytes bytes = (i : ℕ) → get_or bytes i 0 < 256

pub IsBytes-drop : (n : ℕ) (bytes : List ℕ) → IsBytes bytes → IsBytes (drop n bytes)
IsBytes-drop n bytes h i = rw (get_or-drop n bytes i 0) (h (n + i))

pub bind_ok : {A B : Type 0} (r : Result A ℕ) (f : A → Result B ℕ) (y : B) → (r >>= f) ≡ Ok y → (x : A) × (r ≡ Ok x) × (f x ≡ Ok y)
bind_ok (Ok x) f y h = (x, refl, h)
bind_ok (Err n) f y h = absurd (cc)

pub guard_ok : {A : Type 0} (b : Bool) (n : ℕ) (x y : A) → cond b (Err n) (Ok x) ≡ Ok y → (b ≡ false) × (x ≡ y)
guard_ok true n x y h = absurd (cc)
guard_ok false n x y h = (refl, cc)

pub ok_parts : {A B : Type 0} {a c : A} {b d : B} → ◌≡◌ {A = Result (A × B) ℕ} (Ok (a, b)) (Ok (c, d)) → (a ≡ c) × (b ≡ d)
ok_parts {A} {B} {a} {c} {b} {d} h = let e : (a, b) ≡ (c, d) = cc in (ap (λ (x : A × B). x.0) e, ap (λ (x : A × B). x.1) e)

pub lowered_fits : (half n : ℕ) → n < half + half → IsWithin half (lowered half n)
lowered_fits half n h = by (ltb n half) refl
  where
    by : (b : Bool) → ltb n half ≡ b → IsWithin half (cond b (negsuc (half - suc n)) (pos (n - half)))
    by true e = grind (arith, nat_tests)
    by false e = grind (arith, nat_tests)

pub raised-lowered : (half n : ℕ) → raised half (lowered half n) ≡ n
raised-lowered half n = by (ltb n half) refl
  where
    by : (b : Bool) → ltb n half ≡ b → raised half (cond b (negsuc (half - suc n)) (pos (n - half))) ≡ n
    by true e = grind (arith, nat_tests)
    by false e = grind (arith, nat_tests)

number_parts : (w : Width) (n : ℕ) (bytes rest : List ℕ) → number_at w bytes ≡ Ok (n, rest) → (byte_len w ≤ length bytes) × (from_be_bytes w (take (byte_len w) bytes) ≡ n) × (drop (byte_len w) bytes ≡ rest)
number_parts w n bytes rest h =
    let g = guard_ok (ltb (length bytes) (byte_len w)) 0 (from_be_bytes w (take (byte_len w) bytes), drop (byte_len w) bytes) (n, rest) h in
    (ltb-false _ _ g.0, ap (λ (x : ℕ × List ℕ). x.0) g.1, ap (λ (x : ℕ × List ℕ). x.1) g.1)

front_bytes : (k : ℕ) (bytes : List ℕ) → IsBytes bytes → IsBytes (take k bytes)
front_bytes zero bytes h i = omega arith
front_bytes (suc k) [] h i = h i
front_bytes (suc k) (b ∷ bytes) h zero = h 0
front_bytes (suc k) (b ∷ bytes) h (suc i) = front_bytes k bytes (λ j. h (suc j)) i

number_32 : (n : ℕ) (bytes rest : List ℕ) → IsBytes bytes → number_at w32 bytes ≡ Ok (n, rest) → (bytes ≡ to_be_bytes w32 n ++ rest) × (n < 2 ^ 32)
number_32 n bytes rest fits h =
    let p = number_parts w32 n bytes rest h in
    let front = front_bytes 4 bytes fits in
    let spelled = be_bytes_4 (take 4 bytes) n (length-take-le 4 bytes p.0) front (sym p.1) in (
      sym (take-append-drop 4 bytes) ∙ ap (λ x. x ++ drop 4 bytes) (sym spelled) ∙ ap (λ x. to_be_bytes w32 n ++ x) p.2,
      subst (λ m. m < 2 ^ 32) p.1 (omega (arith, front 0, front 1, front 2, front 3)),
    )

number_64 : (n : ℕ) (bytes rest : List ℕ) → IsBytes bytes → number_at w64 bytes ≡ Ok (n, rest) → (bytes ≡ to_be_bytes w64 n ++ rest) × (n < 2 ^ 64)
number_64 n bytes rest fits h =
    let p = number_parts w64 n bytes rest h in
    let front = front_bytes 8 bytes fits in
    let spelled = be_bytes_8 (take 8 bytes) n (length-take-le 8 bytes p.0) front (sym p.1) in (
      sym (take-append-drop 8 bytes) ∙ ap (λ x. x ++ drop 8 bytes) (sym spelled) ∙ ap (λ x. to_be_bytes w64 n ++ x) p.2,
      subst (λ m. m < 2 ^ 64) p.1 (omega (arith, front 0, front 1, front 2, front 3, front 4, front 5, front 6, front 7)),
    )

-- what a value read tells
pub record Takes (k : Kind) (bytes : List ℕ) (v : Value) (rest : List ℕ) : Type 0 where
  pub spelled : bytes ≡ spell v ++ rest
  pub kind : has_kind k v ≡ true
  pub value : IsValue v

int32_takes : (bytes : List ℕ) (v : Value) (rest : List ℕ) → IsBytes bytes → int32_at bytes ≡ Ok (v, rest) → Takes kinds.Int32 bytes v rest
unfolding int32_at
int32_takes bytes v rest fits h =
    let b = bind_ok (number_at w32 bytes) (λ n. Ok (Int32 (lowered (2 ^ 31) n.0), n.1)) (v, rest) h in
    let parts = ok_parts b.2 in
    let n = number_32 b.0.0 bytes b.0.1 fits b.1 in
    let is : v ≡ Int32 (lowered (2 ^ 31) b.0.0) = sym parts.0 in
    rw is (record {
      spelled = n.0 ∙ ap (λ m. to_be_bytes w32 m ++ b.0.1) (sym (raised-lowered (2 ^ 31) b.0.0)) ∙ ap (λ x. to_be_bytes w32 (raised (2 ^ 31) (lowered (2 ^ 31) b.0.0)) ++ x) parts.1;
      kind = refl;
      value = lowered_fits (2 ^ 31) b.0.0 (omega (arith, n.1));
    })

int64_takes : (bytes : List ℕ) (v : Value) (rest : List ℕ) → IsBytes bytes → int64_at bytes ≡ Ok (v, rest) → Takes kinds.Int64 bytes v rest
unfolding int64_at
int64_takes bytes v rest fits h =
    let b = bind_ok (number_at w64 bytes) (λ n. Ok (Int64 (lowered (2 ^ 63) n.0), n.1)) (v, rest) h in
    let parts = ok_parts b.2 in
    let n = number_64 b.0.0 bytes b.0.1 fits b.1 in
    let is : v ≡ Int64 (lowered (2 ^ 63) b.0.0) = sym parts.0 in
    rw is (record {
      spelled = n.0 ∙ ap (λ m. to_be_bytes w64 m ++ b.0.1) (sym (raised-lowered (2 ^ 63) b.0.0)) ∙ ap (λ x. to_be_bytes w64 (raised (2 ^ 63) (lowered (2 ^ 63) b.0.0)) ++ x) parts.1;
      kind = refl;
      value = lowered_fits (2 ^ 63) b.0.0 (omega (arith, n.1));
    })

truth_of : (b c : Bool) (byte : ℕ) (bytes : List ℕ) (v : Value) (rest : List ℕ) → eqb byte 0 ≡ b → eqb byte 1 ≡ c → cond {A = Read Value} b (Ok (Truth false, bytes)) (cond c (Ok (Truth true, bytes)) (Err (suc (length bytes)))) ≡ Ok (v, rest) → Takes kinds.Bool (byte ∷ bytes) v rest
truth_of true c byte bytes v rest e f h =
    let parts = ok_parts h in
    let zero_is : byte ≡ 0 = grind (arith, nat_tests) in
    rw (← parts.0) (record { spelled = ap (λ x. x ∷ bytes) zero_is ∙ ap (λ x. 0 ∷ x) parts.1; kind = refl; value = tt })
truth_of false true byte bytes v rest e f h =
    let parts = ok_parts h in
    let one_is : byte ≡ 1 = grind (arith, nat_tests) in
    rw (← parts.0) (record { spelled = ap (λ x. x ∷ bytes) one_is ∙ ap (λ x. 1 ∷ x) parts.1; kind = refl; value = tt })
truth_of false false byte bytes v rest e f h = absurd (cc)

truth_takes : (bytes : List ℕ) (v : Value) (rest : List ℕ) → truth_at bytes ≡ Ok (v, rest) → Takes kinds.Bool bytes v rest
unfolding truth_at
truth_takes [] v rest h = absurd (cc)
truth_takes (byte ∷ bytes) v rest h = truth_of (eqb byte 0) (eqb byte 1) byte bytes v rest refl refl h

front_ok : (b : ℕ) (r : Read (List ℕ)) (t rest : List ℕ) → with_front (b ∷ []) r ≡ Ok (t, rest) → (more : List ℕ) × (r ≡ Ok (more, rest)) × (t ≡ b ∷ more)
front_ok b (Ok x) t rest h = let parts = ok_parts h in (x.0, ap (λ y. Ok (x.0, y)) parts.1, sym parts.0)
front_ok b (Err n) t rest h = absurd (cc)

zero_undone : (b d : Bool) (c : ℕ) (bytes t rest : List ℕ) → eqb c 255 ≡ b → eqb c 1 ≡ d → ((more : List ℕ) → unescaped bytes ≡ Ok (more, rest) → bytes ≡ escaped more ++ rest) → cond {A = Read (List ℕ)} b (with_front (0 ∷ []) (unescaped bytes)) (cond d (Ok ([], bytes)) (Err (suc (length bytes)))) ≡ Ok (t, rest) → 0 ∷ c ∷ bytes ≡ escaped t ++ rest
zero_undone true d c bytes t rest e f ih h =
    let w = front_ok 0 (unescaped bytes) t rest h in
    let is : c ≡ 255 = grind (arith, nat_tests) in
    rw w.2 (ap (λ x. 0 ∷ x ∷ bytes) is ∙ ap (λ x. 0 ∷ 255 ∷ x) (ih w.0 w.1))
zero_undone false true c bytes t rest e f ih h =
    let parts = ok_parts h in
    let is : c ≡ 1 = grind (arith, nat_tests) in
    rw (← parts.0) (ap (λ x. 0 ∷ x ∷ bytes) is ∙ ap (λ x. 0 ∷ 1 ∷ x) parts.1)
zero_undone false false c bytes t rest e f ih h = absurd (cc)

pub unescaped_takes : (bytes t rest : List ℕ) → unescaped bytes ≡ Ok (t, rest) → bytes ≡ escaped t ++ rest
unfolding unescaped
unescaped_takes [] t rest h = absurd (cc)
unescaped_takes (zero ∷ []) t rest h = absurd (cc)
unescaped_takes (zero ∷ c ∷ bytes) t rest h = zero_undone (eqb c 255) (eqb c 1) c bytes t rest refl refl (λ more g. unescaped_takes bytes more rest g) h
unescaped_takes (suc b ∷ bytes) t rest h =
    let w = front_ok (suc b) (unescaped bytes) t rest h in
    rw w.2 (ap (λ x. suc b ∷ x) (unescaped_takes bytes w.0 rest w.1) ∙ ap (λ e. ((e ++ flat_map escape w.0) ++ 0 ∷ 1 ∷ []) ++ rest) (sym (escape-suc b)))

raw_takes : (bytes : List ℕ) (v : Value) (rest : List ℕ) → raw_at bytes ≡ Ok (v, rest) → Takes kinds.Raw bytes v rest
unfolding raw_at
raw_takes bytes v rest h =
    let b = bind_ok (unescaped bytes) (λ x. Ok (Raw x.0, x.1)) (v, rest) h in
    let parts = ok_parts b.2 in
    rw (← parts.0) (record { spelled = unescaped_takes bytes b.0.0 b.0.1 b.1 ∙ ap (λ x. escaped b.0.0 ++ x) parts.1; kind = refl; value = tt })

text_parts : (b : Bool) (t : List ℕ) (n : ℕ) (v : Value) → is_utf8 t ≡ b → cond b (Ok (Str t)) (Err n) ≡ Ok v → (v ≡ Str t) × IsUtf8 t
text_parts true t n v e h = (let same : Str t ≡ v = cc in sym same, IsUtf8-from_is_utf8 t e)
text_parts false t n v e h = absurd (cc)

text_takes : (bytes : List ℕ) (v : Value) (rest : List ℕ) → text_at bytes ≡ Ok (v, rest) → Takes kinds.Str bytes v rest
unfolding text_at text_of
text_takes bytes v rest h =
    let b = bind_ok (unescaped bytes) (λ x. text_of x.0 (length bytes) >>= λ w. Ok (w, x.1)) (v, rest) h in
    let d = bind_ok (text_of b.0.0 (length bytes)) (λ w. Ok (w, b.0.1)) (v, rest) b.2 in
    let parts = ok_parts d.2 in
    let text = text_parts (is_utf8 b.0.0) b.0.0 _ d.0 refl d.1 in
    let is : v ≡ Str b.0.0 = sym parts.0 ∙ text.0 in
    rw is (record { spelled = unescaped_takes bytes b.0.0 b.0.1 b.1 ∙ ap (λ x. escaped b.0.0 ++ x) parts.1; kind = refl; value = text.1 })

pub value_takes : (k : Kind) (bytes : List ℕ) (v : Value) (rest : List ℕ) → IsBytes bytes → value_at k bytes ≡ Ok (v, rest) → Takes k bytes v rest
value_takes kinds.Int32 bytes v rest fits h = int32_takes bytes v rest fits h
value_takes kinds.Int64 bytes v rest fits h = int64_takes bytes v rest fits h
value_takes kinds.Bool bytes v rest fits h = truth_takes bytes v rest h
value_takes kinds.Str bytes v rest fits h = text_takes bytes v rest h
value_takes kinds.Raw bytes v rest fits h = raw_takes bytes v rest h

-- what follows bytes is bytes
pub IsBytes-after : (bytes front rest : List ℕ) → bytes ≡ front ++ rest → IsBytes bytes → IsBytes rest
IsBytes-after bytes front rest e h = subst IsBytes (ap (drop (length front)) e ∙ drop_at front rest (length front) refl) (IsBytes-drop (length front) bytes h)

pub record TakesAll (ks : List Kind) (bytes : List ℕ) (vs : List Value) (rest : List ℕ) : Type 0 where
  pub spelled : bytes ≡ spell_all vs ++ rest
  pub stand : StandIn ks vs

pub values_take : (ks : List Kind) (bytes : List ℕ) (vs : List Value) (rest : List ℕ) → IsBytes bytes → values_at ks bytes ≡ Ok (vs, rest) → TakesAll ks bytes vs rest
unfolding values_at
values_take [] bytes vs rest fits h = let parts = ok_parts h in rw (← parts.0) (record { spelled = parts.1; stand = tt })
values_take (k ∷ ks) bytes vs rest fits h =
    let b = bind_ok (value_at k bytes) (λ first. values_at ks first.1 >>= λ more. Ok (first.0 ∷ more.0, more.1)) (vs, rest) h in
    let d = bind_ok (values_at ks b.0.1) (λ more. Ok (b.0.0 ∷ more.0, more.1)) (vs, rest) b.2 in
    let parts = ok_parts d.2 in
    let first = value_takes k bytes b.0.0 b.0.1 fits b.1 in
    let more = values_take ks b.0.1 d.0.0 d.0.1 (IsBytes-after bytes (spell b.0.0) b.0.1 first.spelled fits) d.1 in
    rw (← parts.0) (record {
      spelled = first.spelled ∙ ap (λ x. spell b.0.0 ++ x) (more.spelled ∙ ap (λ x. spell_all d.0.0 ++ x) parts.1) ∙ sym (append_assoc (spell b.0.0) (spell_all d.0.0) rest);
      stand = (first.kind, first.value, more.stand);
    })
