-- The content of a string that stands in a text of UTF-8 is UTF-8.
use Rattle.std.proofs.Common.{◌≡◌, ℕ, zero, suc, ◌+◌, ◌-◌, ◌*◌, ◌<◌, ◌≤◌, ◌==◌, ◌&&◌, ◌||◌, cond, Bool, true, false, Option, Some, None, List, [], ◌∷◌, ◌++◌, length, take, drop, get_or, refl, sym, ◌∙◌, ap, subst, append_assoc, append-nil, length-append, eqb-true, add-one, arith, inl, inr, IsUtf8}
use Rattle.std.specs.Prelude.{nat_lt, nat_le, option_map, option_and_then}
use Rattle.std.specs.Char.{IsScalar, digit_value, is_digit, encode_utf8}
use Rattle.std.specs.Str.{IsCharBoundary}
use Rattle.std.proofs.Math.Seq.{drop-append_seam, take-append_seam}
use Rattle.std.proofs.Math.Utf8.{low_scalar}
use Rattle.std.proofs.lemmas.Bool.{and_parts, cases_lt}
use Rattle.std.proofs.lemmas.Bool.Decides.{nat_tests}
use Rattle.std.proofs.lemmas.Str.{IsCharBoundary-after_ascii, IsCharBoundary-before_ascii, IsCharBoundary-start, encode_ascii, IsUtf8-append, IsUtf8-between, IsUtf8-drop, IsUtf8-encode, IsUtf8-from_ascii, IsUtf8-nil}
use Rattle.json.specs.Text.{Within, after_backslash, after_high, after_u, code_unit, content, is_high_surrogate, is_low_surrogate, plain, prepend, short_escape, surrogate_pair}

-- ---- where a text may be parted

at_seam : (pre : List ℕ) (x : ℕ) (xs : List ℕ) → get_or (pre ++ x ∷ xs) (length pre) 0 ≡ x
at_seam [] x xs = refl
at_seam (p ∷ pre) x xs = at_seam pre x xs

longer : (pre : List ℕ) (x : ℕ) (xs : List ℕ) → length pre < length (pre ++ x ∷ xs)
longer pre x xs = omega (arith, length-append pre (x ∷ xs))

pub before_ascii : (pre : List ℕ) (x : ℕ) (xs : List ℕ) → IsUtf8 (pre ++ x ∷ xs) → x < 128 → IsUtf8 pre
before_ascii pre x xs u small =
    let whole = pre ++ x ∷ xs in
    let low : get_or whole (length pre) 0 < 128 = subst (λ (b : ℕ). b < 128) (sym (at_seam pre x xs)) small in
    let part : IsUtf8 (take (length pre - 0) whole) =
    IsUtf8-between whole 0 (length pre) u (omega arith) (IsCharBoundary-start whole u) (IsCharBoundary-before_ascii whole (length pre) (longer pre x xs) low) in
    let whole_front : length pre - 0 ≡ length pre = omega arith in
    subst IsUtf8 (ap (λ (n : ℕ). take n whole) whole_front ∙ take-append_seam pre (x ∷ xs)) part

drop_suc : (pre : List ℕ) (x : ℕ) (xs : List ℕ) → drop (suc (length pre)) (pre ++ x ∷ xs) ≡ xs
drop_suc [] x xs = refl
drop_suc (p ∷ pre) x xs = drop_suc pre x xs

drop_one : (pre : List ℕ) (x : ℕ) (xs : List ℕ) → drop (length pre + 1) (pre ++ x ∷ xs) ≡ xs
drop_one pre x xs = ap (λ (n : ℕ). drop n (pre ++ x ∷ xs)) (add-one (length pre)) ∙ drop_suc pre x xs

pub behind_ascii : (pre : List ℕ) (x : ℕ) (xs : List ℕ) → IsUtf8 (pre ++ x ∷ xs) → x < 128 → IsUtf8 xs
behind_ascii pre x xs u small =
    let whole = pre ++ x ∷ xs in
    let low : get_or whole (length pre) 0 < 128 = subst (λ (b : ℕ). b < 128) (sym (at_seam pre x xs)) small in
    subst IsUtf8 (drop_one pre x xs) (IsUtf8-drop whole (length pre + 1) u (IsCharBoundary-after_ascii whole (length pre) u (longer pre x xs) low))

one_ascii : (x : ℕ) → x < 128 → IsUtf8 (x ∷ [])
one_ascii x small = subst IsUtf8 (encode_ascii x small) (IsUtf8-encode x (low_scalar x (omega (arith, small))))

-- ---- escapes

abbrev Fits : (List ℕ → Option (List ℕ)) → List ℕ → Type 0
Fits read xs = (s : List ℕ) → IsUtf8 xs → read xs ≡ Some s → IsUtf8 s

prepended : (front : List ℕ) (rest : Option (List ℕ)) (s : List ℕ) → prepend front rest ≡ Some s → (t : List ℕ) × (rest ≡ Some t) × (front ++ t ≡ s)
prepended front None s e = absurd (cc)
prepended front (Some t) s e = (t, refl, let same : front ++ t ≡ s = cc in same)

escaped : (front : List ℕ) (xs : List ℕ) (s : List ℕ) → IsUtf8 front → IsUtf8 xs → Fits (content plain) xs → prepend front (content plain xs) ≡ Some s → IsUtf8 s
escaped front xs s whole u more e =
    let p = prepended front (content plain xs) s e in
    subst IsUtf8 p.2 (IsUtf8-append front p.0 whole (more p.0 u p.1))

plain_by : (x : ℕ) (xs pre s : List ℕ) → IsUtf8 (pre ++ x ∷ xs) → ((t : List ℕ) → content plain xs ≡ Some t → IsUtf8 ((pre ++ x ∷ []) ++ t)) → Fits (content after_backslash) xs → content plain (x ∷ xs) ≡ Some s → IsUtf8 (pre ++ s)
unfolding content
plain_by x xs pre s u more back e = go (x == 34) refl (x == 92) refl (nat_lt x 32) e
  where
    go : (a : Bool) → (x == 34) ≡ a → (b : Bool) → (x == 92) ≡ b → (c : Bool) → cond a (Some []) (cond b (content after_backslash xs) (cond c None (prepend (x ∷ []) (content plain xs)))) ≡ Some s → IsUtf8 (pre ++ s)
    go true is b isb c e =
        let low : x < 128 = let same = eqb-true x 34 is in omega (arith, same) in
        let empty : ◌≡◌ {A = List ℕ} [] s = cc in
        subst (λ (t : List ℕ). IsUtf8 (pre ++ t)) empty (subst IsUtf8 (sym (append-nil pre)) (before_ascii pre x xs u low))
    go false is true isb c e =
        let low : x < 128 = let same = eqb-true x 92 isb in omega (arith, same) in
        IsUtf8-append pre s (before_ascii pre x xs u low) (back s (behind_ascii pre x xs u low) e)
    go false is false isb true e = absurd (cc)
    go false is false isb false e =
        let p = prepended (x ∷ []) (content plain xs) s e in
        subst (λ (t : List ℕ). IsUtf8 (pre ++ t)) p.2 (subst IsUtf8 (append_assoc pre (x ∷ []) p.0) (more p.0 p.1))

-- one test of a chain of tests
record IsLow (x c : ℕ) : Type 0 where
  byte : x < 128
  value : c < 128

one_low : (x c k v : ℕ) (rest : Option ℕ) → k < 128 → v < 128 → (rest ≡ Some c → IsLow x c) → (t : Bool) → (x == k) ≡ t → cond t (Some v) rest ≡ Some c → IsLow x c
one_low x c k v rest lk lv more true is e =
    let same = eqb-true x k is in
    let value : v ≡ c = cc in
    record { byte = omega (arith, same, lk); value = subst (λ (n : ℕ). n < 128) value lv }
one_low x c k v rest lk lv more false is e = more e

none_low : (x c : ℕ) → ◌≡◌ {A = Option ℕ} None (Some c) → IsLow x c
none_low x c e = absurd (cc)

itself_low : (x c : ℕ) (rest : Option ℕ) → (rest ≡ Some c → IsLow x c) → (a b d : Bool) → (x == 34) ≡ a → (x == 92) ≡ b → (x == 47) ≡ d → cond (a || b || d) (Some x) rest ≡ Some c → IsLow x c
itself_low x c rest more true b d isa isb isd e =
    let same = eqb-true x 34 isa in let value : x ≡ c = cc in record { byte = omega (arith, same); value = omega (arith, same, value) }
itself_low x c rest more false true d isa isb isd e =
    let same = eqb-true x 92 isb in let value : x ≡ c = cc in record { byte = omega (arith, same); value = omega (arith, same, value) }
itself_low x c rest more false false true isa isb isd e =
    let same = eqb-true x 47 isd in let value : x ≡ c = cc in record { byte = omega (arith, same); value = omega (arith, same, value) }
itself_low x c rest more false false false isa isb isd e = more e

escape_low : (x c : ℕ) → short_escape x ≡ Some c → IsLow x c
unfolding short_escape
escape_low x c e =
    itself_low x c _ (λ e. one_low x c 98 8 _ (omega arith) (omega arith) (λ e. one_low x c 102 12 _ (omega arith) (omega arith) (λ e. one_low x c 110 10 _ (omega arith) (omega arith)
    (λ e. one_low x c 114 13 _ (omega arith) (omega arith) (λ e. one_low x c 116 9 None (omega arith) (omega arith) (none_low x c) (x == 116) refl e) (x == 114) refl e) (x == 110) refl e) (x == 102) refl e) (x == 98) refl e)
    (x == 34) (x == 92) (x == 47) refl refl refl e

back_by : (x : ℕ) (xs s : List ℕ) → IsUtf8 (x ∷ xs) → Fits (content plain) xs → Fits (content after_u) xs → content after_backslash (x ∷ xs) ≡ Some s → IsUtf8 s
unfolding content
back_by x xs s u more code e = go (x == 117) refl e
  where
    short : (o : Option ℕ) → short_escape x ≡ o → option_and_then (λ c. prepend (c ∷ []) (content plain xs)) o ≡ Some s → IsUtf8 s
    short None is e = absurd (cc)
    short (Some c) is e =
        let low = escape_low x c is in
        escaped (c ∷ []) xs s (one_ascii c low.value) (behind_ascii [] x xs u low.byte) more e

    go : (a : Bool) → (x == 117) ≡ a → cond a (content after_u xs) (option_and_then (λ c. prepend (c ∷ []) (content plain xs)) (short_escape x)) ≡ Some s → IsUtf8 s
    go true is e = code s (behind_ascii [] x xs u (let same = eqb-true x 117 is in omega (arith, same))) e
    go false is e = short (short_escape x) refl e

-- four hex digits
record IsUnit (a b c d v : ℕ) : Type 0 where
  first : a < 128
  second : b < 128
  third : c < 128
  fourth : d < 128
  most : v < 65536

not_less : (m n : ℕ) → n ≤ m → nat_lt m n ≡ false
not_less m n le = grind (arith, nat_tests)

high_value : (a : ℕ) → 123 ≤ a → digit_value a ≡ 36
high_value a high =
    rw (not_less a 48 (omega (arith, high)), not_less a 58 (omega (arith, high)), not_less a 65 (omega (arith, high)), not_less a 91 (omega (arith, high)), not_less a 97 (omega (arith, high)), not_less a 123 high) refl

less : (m n : ℕ) → nat_lt m n ≡ true → m < n
less m n t = grind (arith, nat_tests)

record IsHex (a : ℕ) : Type 0 where
  low : a < 128
  most : digit_value a ≤ 15

hex_low : (a : ℕ) → is_digit a 16 ≡ true → IsHex a
hex_low a e =
    let small = less (digit_value a) 16 e in
    record { low = elim (cases_lt a 123) [ inl below ↦ omega (arith, below) | inr above ↦ let big = high_value a above in absurd (omega (arith, small, big)) ]; most = omega (arith, small) }

unit_low : (a b c d v : ℕ) → code_unit a b c d ≡ Some v → IsUnit a b c d v
unfolding code_unit
unit_low a b c d v e = go (is_digit a 16) (is_digit b 16) (is_digit c 16) (is_digit d 16) refl refl refl refl e
  where
    go : (p q r t : Bool) → is_digit a 16 ≡ p → is_digit b 16 ≡ q → is_digit c 16 ≡ r → is_digit d 16 ≡ t
        → cond (p && q && r && t) (Some (digit_value a * 4096 + digit_value b * 256 + digit_value c * 16 + digit_value d)) None ≡ Some v → IsUnit a b c d v
    go true true true true isa isb isc isd e =
        let ha = hex_low a isa in let hb = hex_low b isb in let hc = hex_low c isc in let hd = hex_low d isd in
        let is : digit_value a * 4096 + digit_value b * 256 + digit_value c * 16 + digit_value d ≡ v = cc in
        record { first = ha.low; second = hb.low; third = hc.low; fourth = hd.low; most = omega (arith, is, ha.most, hb.most, hc.most, hd.most) }
    go true true true false isa isb isc isd e = absurd (cc)
    go true true false t isa isb isc isd e = absurd (cc)
    go true false r t isa isb isc isd e = absurd (cc)
    go false q r t isa isb isc isd e = absurd (cc)

apart : (v : ℕ) → v < 1114112 → 57344 ≤ v → IsScalar v
apart v most least = grind (arith, nat_tests)

-- what the tests of surrogates say
record IsPart (low high v : ℕ) : Type 0 where
  from : low ≤ v
  to : v < high

part_of : (low high v : ℕ) → nat_le low v && nat_lt v high ≡ true → IsPart low high v
part_of low high v e = let p = and_parts (nat_le low v) (nat_lt v high) e in record { from = grind (arith, nat_tests); to = less v high p.1 }

encoded : (v : ℕ) → v < 65536 → is_high_surrogate v ≡ false → is_low_surrogate v ≡ false → IsUtf8 (encode_utf8 v)
encoded v most high low = IsUtf8-encode v (elim (cases_lt v 55296) [
  | inl below ↦ low_scalar v below
  | inr above ↦ elim (cases_lt v 56320) [
    | inl small ↦ absurd (let yes : nat_le 55296 v && nat_lt v 56320 ≡ true = grind (arith, nat_tests) in let both : true ≡ false = sym yes ∙ high in cc)
    | inr large ↦ elim (cases_lt v 57344) [
      | inl small ↦ absurd (let yes : nat_le 56320 v && nat_lt v 57344 ≡ true = grind (arith, nat_tests) in let both : true ≡ false = sym yes ∙ low in cc)
      | inr large ↦ apart v (omega (arith, most)) large
    ]
  ]
])

paired : (h l : ℕ) → is_high_surrogate h ≡ true → is_low_surrogate l ≡ true → IsUtf8 (encode_utf8 (surrogate_pair h l))
paired h l high low =
    let first = part_of 55296 56320 h high in
    let second = part_of 56320 57344 l low in
    IsUtf8-encode (surrogate_pair h l) (apart (surrogate_pair h l) (omega (arith, first.from, first.to, second.from, second.to)) (omega (arith, first.from, second.from)))

behind_four : (a b c d : ℕ) (xs : List ℕ) → IsUtf8 (a ∷ b ∷ c ∷ d ∷ xs) → a < 128 → b < 128 → c < 128 → d < 128 → IsUtf8 xs
behind_four a b c d xs u la lb lc ld =
    behind_ascii [] d xs (behind_ascii [] c (d ∷ xs) (behind_ascii [] b (c ∷ d ∷ xs) (behind_ascii [] a (b ∷ c ∷ d ∷ xs) u la) lb) lc) ld

code_by : (a b c d : ℕ) (xs s : List ℕ) → IsUtf8 (a ∷ b ∷ c ∷ d ∷ xs) → Fits (content plain) xs → ((h : ℕ) → is_high_surrogate h ≡ true → Fits (content (after_high h)) xs) → content after_u (a ∷ b ∷ c ∷ d ∷ xs) ≡ Some s → IsUtf8 s
unfolding content
code_by a b c d xs s u more high e = unit (code_unit a b c d) refl e
  where
    by : (v : ℕ) → IsUnit a b c d v → (t : Bool) → is_high_surrogate v ≡ t → (w : Bool) → is_low_surrogate v ≡ w
        → cond t (content (after_high v) xs) (cond w None (prepend (encode_utf8 v) (content plain xs))) ≡ Some s → IsUtf8 s
    by v low true is w isw e = high v is s (behind_four a b c d xs u low.first low.second low.third low.fourth) e
    by v low false is true isw e = absurd (cc)
    by v low false is false isw e = escaped (encode_utf8 v) xs s (encoded v low.most is isw) (behind_four a b c d xs u low.first low.second low.third low.fourth) more e

    unit : (o : Option ℕ) → code_unit a b c d ≡ o
        → option_and_then (λ v. cond (is_high_surrogate v) (content (after_high v) xs) (cond (is_low_surrogate v) None (prepend (encode_utf8 v) (content plain xs)))) o ≡ Some s → IsUtf8 s
    unit None is e = absurd (cc)
    unit (Some v) is e = by v (unit_low a b c d v is) (is_high_surrogate v) refl (is_low_surrogate v) refl e

high_by : (h x y a b c d : ℕ) (xs s : List ℕ) → is_high_surrogate h ≡ true → IsUtf8 (x ∷ y ∷ a ∷ b ∷ c ∷ d ∷ xs) → Fits (content plain) xs → content (after_high h) (x ∷ y ∷ a ∷ b ∷ c ∷ d ∷ xs) ≡ Some s → IsUtf8 s
unfolding content
high_by h x y a b c d xs s high u more e = go (x == 92) refl (y == 117) refl e
  where
    by : (l : ℕ) → IsUtf8 xs → (t : Bool) → is_low_surrogate l ≡ t → cond t (prepend (encode_utf8 (surrogate_pair h l)) (content plain xs)) None ≡ Some s → IsUtf8 s
    by l rest true is e = escaped (encode_utf8 (surrogate_pair h l)) xs s (paired h l high is) rest more e
    by l rest false is e = absurd (cc)

    unit : IsUtf8 (a ∷ b ∷ c ∷ d ∷ xs) → (o : Option ℕ) → code_unit a b c d ≡ o
        → option_and_then (λ l. cond (is_low_surrogate l) (prepend (encode_utf8 (surrogate_pair h l)) (content plain xs)) None) o ≡ Some s → IsUtf8 s
    unit rest None is e = absurd (cc)
    unit rest (Some l) is e =
        let low = unit_low a b c d l is in
        by l (behind_four a b c d xs rest low.first low.second low.third low.fourth) (is_low_surrogate l) refl e

    go : (p : Bool) → (x == 92) ≡ p → (q : Bool) → (y == 117) ≡ q
        → cond (p && q) (option_and_then (λ l. cond (is_low_surrogate l) (prepend (encode_utf8 (surrogate_pair h l)) (content plain xs)) None) (code_unit a b c d)) None ≡ Some s → IsUtf8 s
    go true is true isq e =
        let slash : x < 128 = let same = eqb-true x 92 is in omega (arith, same) in
        let mark : y < 128 = let same = eqb-true y 117 isq in omega (arith, same) in
        unit (behind_ascii [] y (a ∷ b ∷ c ∷ d ∷ xs) (behind_ascii [] x (y ∷ a ∷ b ∷ c ∷ d ∷ xs) u slash) mark) (code_unit a b c d) refl e
    go true is false isq e = absurd (cc)
    go false is q isq e = absurd (cc)

-- ---- the content

none_some : (s : List ℕ) → ◌≡◌ {A = Option (List ℕ)} None (Some s) → ⊥
none_some s e = cc

mutual
  unfolding content

  pub plain_fits : (xs pre s : List ℕ) → IsUtf8 (pre ++ xs) → content plain xs ≡ Some s → IsUtf8 (pre ++ s)
  plain_fits [] pre s u e = absurd (none_some s e)
  plain_fits (x ∷ xs) pre s u e =
      plain_by x xs pre s u (λ t f. plain_fits xs (pre ++ x ∷ []) t (subst IsUtf8 (sym (append_assoc pre (x ∷ []) xs)) u) f) (λ t v f. back_fits xs t v f) e

  back_fits : (xs s : List ℕ) → IsUtf8 xs → content after_backslash xs ≡ Some s → IsUtf8 s
  back_fits [] s u e = absurd (none_some s e)
  back_fits (x ∷ xs) s u e = back_by x xs s u (λ t v f. plain_fits xs [] t v f) (λ t v f. code_fits xs t v f) e

  code_fits : (xs s : List ℕ) → IsUtf8 xs → content after_u xs ≡ Some s → IsUtf8 s
  code_fits [] s u e = absurd (none_some s e)
  code_fits (a ∷ []) s u e = absurd (none_some s e)
  code_fits (a ∷ b ∷ []) s u e = absurd (none_some s e)
  code_fits (a ∷ b ∷ c ∷ []) s u e = absurd (none_some s e)
  code_fits (a ∷ b ∷ c ∷ d ∷ xs) s u e = code_by a b c d xs s u (λ t v f. plain_fits xs [] t v f) (λ h is t v f. high_fits h xs t is v f) e

  high_fits : (h : ℕ) (xs s : List ℕ) → is_high_surrogate h ≡ true → IsUtf8 xs → content (after_high h) xs ≡ Some s → IsUtf8 s
  high_fits h [] s is u e = absurd (none_some s e)
  high_fits h (x ∷ []) s is u e = absurd (none_some s e)
  high_fits h (x ∷ y ∷ []) s is u e = absurd (none_some s e)
  high_fits h (x ∷ y ∷ a ∷ []) s is u e = absurd (none_some s e)
  high_fits h (x ∷ y ∷ a ∷ b ∷ []) s is u e = absurd (none_some s e)
  high_fits h (x ∷ y ∷ a ∷ b ∷ c ∷ []) s is u e = absurd (none_some s e)
  high_fits h (x ∷ y ∷ a ∷ b ∷ c ∷ d ∷ xs) s is u e = high_by h x y a b c d xs s is u (λ t v f. plain_fits xs [] t v f) e
