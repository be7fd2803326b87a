-- The lines of a backup are read as the group and the entries that were written.
use Rattle.std.proofs.Common.{◌≡◌, ℕ, zero, suc, ◌+◌, ◌-◌, ◌*◌, ◌/◌, ◌%◌, ◌^◌, ◌<◌, ◌≤◌, ◌&&◌, ◌==◌, cond, eqb, ltb, Bool, true, false, nat_le, List, [], ◌∷◌, ◌++◌, length, take, drop, map, min, not, codes, decimal, get_or, length-append, refl, sym, ap, ◌∙◌, arith, append_assoc, inl, inr, Option, Some, None, option_and_then, option_map, Ok, Err}
use Rattle.std.specs.Prelude.{All, position, slice_index}
use Rattle.std.specs.List.{list_all, position_or_len}
use Rattle.std.specs.Result.{result_ok}
use Rattle.std.proofs.lemmas.Bool.{and_parts, cases_lt, eqb-true, eq-eqb, lt-ltb}
use Rattle.std.proofs.lemmas.Bool.Decides.{nat_tests}
use Rattle.std.proofs.lemmas.List.Folds.{list_all-append}
use Rattle.std.proofs.lemmas.List.Elements.{All-nil, All-cons}
use Rattle.std.proofs.lemmas.Fmt.{decimal_by_steps, decimal_digit, decimal_nonempty, first_decimal}
use Rattle.std.proofs.Math.Seq.{take-append_seam, take-length}
use Rattle.hex.specs.Hex.{IsBytes, decode_of, encode_lower, encode_with, lower_digits}
use Rattle.hex.proofs.HexLemmas.{decode_of-encode_lower, length-encode_with}
use Rattle.mega_base.specs.Lists.{All-head, All-tail}
use Rattle.mega_base.specs.Codec.{IsText}
use Rattle.mega_base.specs.Whole.{whole_only}
use Rattle.mega_base.specs.declared.names.GroupId.{GroupId}
use Rattle.mega_entry.specs.declared.content.Content.{Content}
use Rattle.mega_entry.specs.Entries.{entry_at, entry_text, IsEntry}
use Rattle.mega_entry.specs.EntryLaws.{entry_codec}
use Rattle.mega_transcript.specs.Plain.{IsWritten}
use Rattle.mega_backup.specs.Words.{hex_in, is_digit, number_in, number_on, with_digit}
use Rattle.mega_backup.specs.Lines.{backup_in, behind_head, counted, entries_from, entry_in, entry_of, group_in, head_at, head_in, head_of, with_entry, with_group}
use Rattle.mega_backup.specs.Texts.{backup_text, entries_text, entry_line}
use Rattle.mega_backup_laws.specs.Written.{backup_lines, entry_words, head_words, lines_text, is_above_feed, HasNoFeed}
use Rattle.std.proofs.lemmas.List.{length-map}

-- ---- hex

digit_is : (d : ℕ) → d < 16 → is_digit (slice_index lower_digits d) ≡ true
digit_is d small = table 16 d refl small
  where
    passes : ℕ → Bool
    passes zero = true
    passes (suc n) = is_digit (slice_index lower_digits n) && passes n

    table : (n k : ℕ) → passes n ≡ true → k < n → is_digit (slice_index lower_digits k) ≡ true
    table zero k h lt = absurd (omega arith)
    table (suc n) k h lt = let parts = and_parts (is_digit (slice_index lower_digits n)) (passes n) h in elim (cases_lt k n) [
      | inl below ↦ table n k parts.1 below
      | inr top ↦ let e : k ≡ n = omega arith in rw e parts.0
    ]

digits_are : (bytes : List ℕ) → IsBytes bytes → list_all is_digit (encode_lower bytes) ≡ true
unfolding encode_with
digits_are [] f = refl
digits_are (b ∷ bytes) f =
    let small : b < 256 = f 0 in
    rw (digit_is (b / 16) (omega arith), digit_is (b % 16) (omega arith)) (digits_are bytes (λ i. f (suc i)))

hex_back : (bytes : List ℕ) → IsBytes bytes → hex_in (encode_lower bytes) ≡ Some bytes
hex_back bytes f = ap (λ (b : Bool). cond b (result_ok (decode_of (encode_lower bytes))) None) (digits_are bytes f) ∙ ap result_ok (decode_of-encode_lower bytes f)

-- ---- entries

entry_back : (e : Content) → IsWritten e → entry_in (entry_words e) ≡ Some e
entry_back e f =
    ap (option_and_then entry_of) (hex_back (entry_text e) f.1)
    ∙ ap result_ok (whole_only entry_at entry_text (IsText entry_text IsEntry) IsEntry entry_codec (entry_text e) e f.0 refl)

entries_back : (number : ℕ) (entries : List Content) → All IsWritten entries → entries_from number (map entry_words entries) ≡ Ok entries
entries_back number [] f = refl
entries_back number (e ∷ entries) f =
    (λ i. with_entry (entry_back e (All-head IsWritten e entries f) i) number (entries_back (number + 1) entries (All-tail IsWritten e entries f) i))

-- ---- numbers

digit_more : (m d : ℕ) → d < 10 → m * 10 + d ≤ 1000000 → with_digit m (48 + d) ≡ Some (m * 10 + d)
digit_more m d small le =
    let value : m * 10 + ((48 + d) - 48) ≡ m * 10 + d = omega arith in
    (λ i. cond ((low d small i && high d small i) && few (m * 10 + ((48 + d) - 48)) (omega (arith, value, le)) i) (Some (m * 10 + ((48 + d) - 48))) None) ∙ ap Some value
  where
    low : (d : ℕ) → d < 10 → nat_le 48 (48 + d) ≡ true
    low d small = grind (arith, nat_tests)

    high : (d : ℕ) → d < 10 → nat_le (48 + d) 57 ≡ true
    high d small = grind (arith, nat_tests)

    few : (n : ℕ) → n ≤ 1000000 → nat_le n 1000000 ≡ true
    few n le = grind (arith, nat_tests)

number_step : (k : ℕ) (ds : List ℕ) (c : ℕ) → number_on k (ds ++ c ∷ []) ≡ option_and_then (λ m. with_digit m c) (number_on k ds)
number_step k [] c = same (with_digit k c)
  where
    same : (o : Option ℕ) → option_and_then (λ more. Some more) o ≡ o
    same None = refl
    same (Some n) = refl
number_step k (d ∷ ds) c = by (with_digit k d) (λ more. number_step more ds c)
  where
    by : (o : Option ℕ) → ((more : ℕ) → number_on more (ds ++ c ∷ []) ≡ option_and_then (λ m. with_digit m c) (number_on more ds))
        → option_and_then (λ more. number_on more (ds ++ c ∷ [])) o ≡ option_and_then (λ m. with_digit m c) (option_and_then (λ more. number_on more ds) o)
    by None go = refl
    by (Some more) go = go more

abbrev IsRead : ℕ → List ℕ → Type 0
IsRead n ds = n ≤ 1000000 → number_on 0 ds ≡ Some n

one_digit : (n : ℕ) → n < 10 → IsRead n ((48 + n) ∷ [])
one_digit n small le =
    let value : 0 * 10 + n ≡ n = omega arith in
    ap (option_and_then (λ more. Some more)) (digit_more 0 n small (omega (arith, value, le)) ∙ ap Some value)

digit_behind : (n : ℕ) (ds : List ℕ) → 10 ≤ n → IsRead (n / 10) ds → IsRead n (ds ++ (48 + n % 10) ∷ [])
digit_behind n ds some read le =
    let value : n / 10 * 10 + n % 10 ≡ n = omega arith in
    number_step 0 ds (48 + n % 10) ∙ ap (option_and_then (λ m. with_digit m (48 + n % 10))) (read (omega (arith, le)))
    ∙ digit_more (n / 10) (n % 10) (omega arith) (omega (arith, value, le)) ∙ ap Some value

digits_back : (n : ℕ) → n ≤ 1000000 → number_on 0 (decimal n) ≡ Some n
digits_back n le = decimal_by_steps IsRead one_digit digit_behind n (omega (arith, le)) le

unpadded : (ds : List ℕ) (v : ℕ) → number_on 0 ds ≡ Some v → 0 < length ds → 48 < get_or ds 0 0 → number_in ds ≡ Some v
unpadded [] v h some above = absurd (omega (arith, some))
unpadded (c ∷ []) v h some above = h
unpadded (c ∷ d ∷ ds) v h some above = ap (λ (b : Bool). cond b None (number_on 0 (c ∷ d ∷ ds))) (not_zero c above) ∙ h
  where
    not_zero : (c : ℕ) → 48 < c → eqb c 48 ≡ false
    not_zero c above = grind (arith, nat_tests)

number_back : (n : ℕ) → n ≤ 1000000 → number_in (decimal n) ≡ Some n
number_back zero le = ap number_in (decimal_digit 0 (omega arith))
number_back (suc n) le =
    unpadded (decimal (suc n)) (suc n) (digits_back (suc n) le) (decimal_nonempty (suc n) (omega (arith, le))) (first_decimal (suc n) (omega arith) (omega (arith, le)))

-- ---- the head

is_other : (c : ℕ) → is_digit c ≡ true → not (eqb c 32) ≡ true
is_other c digit = by (eqb c 32) refl
  where
    by : (b : Bool) → eqb c 32 ≡ b → not b ≡ true
    by false is = refl
    by true is = let no : false ≡ true = ap is_digit (sym (eqb-true c 32 is)) ∙ digit in absurd (cc)

digits_before : (xs ys : List ℕ) → list_all is_digit xs ≡ true → position_or_len (λ c. c == 32) (xs ++ 32 ∷ ys) ≡ length xs
digits_before [] ys f = refl
digits_before (x ∷ xs) ys f =
    let parts = and_parts (is_digit x) (list_all is_digit xs) f in
    let more = digits_before xs ys parts.1 in
    ap (λ (b : Bool). cond b (1 + position_or_len (λ c. c == 32) (xs ++ 32 ∷ ys)) 0) (is_other x parts.0)
    ∙ (let one : 1 + position_or_len (λ c. c == 32) (xs ++ 32 ∷ ys) ≡ suc (length xs) = omega (arith, more) in one)

space_at : (xs ys : List ℕ) → list_all is_digit xs ≡ true → position (λ c. c == 32) (xs ++ 32 ∷ ys) ≡ Some (length xs)
space_at xs ys f =
    let at = digits_before xs ys f in
    let within : position_or_len (λ c. c == 32) (xs ++ 32 ∷ ys) < length (xs ++ 32 ∷ ys) = omega (arith, at, length-append xs (32 ∷ ys)) in
    ap (λ (b : Bool). cond b (Some (position_or_len (λ c. c == 32) (xs ++ 32 ∷ ys))) None) (lt-ltb _ _ within) ∙ ap Some at

behind_space : (xs ys : List ℕ) → drop (length xs + 1) (xs ++ 32 ∷ ys) ≡ ys
behind_space [] ys = refl
behind_space (x ∷ xs) ys = ap (λ (n : ℕ). drop n (x ∷ xs ++ 32 ∷ ys)) (let next : suc (length xs) + 1 ≡ suc (length xs + 1) = omega arith in next) ∙ behind_space xs ys

group_back : (key : List ℕ) → IsBytes key → 1 ≤ length key → length key ≤ 1024 → group_in (encode_lower key) ≡ Some (record { key = key })
group_back key f some few =
    ap (λ (b : Bool). cond b (option_map (λ key. record { key = key }) (hex_in (encode_lower key))) None) (tested (length (encode_lower key)) (length key) (length-encode_with lower_digits key) some few)
    ∙ ap (option_map (λ key. record { key = key })) (hex_back key f)
  where
    tested : (n k : ℕ) → n ≡ 2 * k → 1 ≤ k → k ≤ 1024 → (nat_le 2 n && nat_le n 2048) ≡ true
    tested n k twice some few = (λ i. least n (omega (arith, twice, some)) i && greatest n (omega (arith, twice, few)) i)
      where
        least : (n : ℕ) → 2 ≤ n → nat_le 2 n ≡ true
        least n le = grind (arith, nat_tests)

        greatest : (n : ℕ) → n ≤ 2048 → nat_le n 2048 ≡ true
        greatest n le = grind (arith, nat_tests)

head_back : (group : GroupId) (count : ℕ) → IsBytes group.key → 1 ≤ length group.key → length group.key ≤ 1024 → count ≤ 1000000 → head_in (head_words group count) ≡ Some (record { group = group; count = count })
head_back group count f some few le =
    let digits = encode_lower group.key in
    let number = decimal count in
    ap (head_at (digits ++ 32 ∷ number)) (space_at digits number (digits_are group.key f))
    ∙ (λ i. head_of (group_in (take-append_seam digits (32 ∷ number) i)) (number_in (behind_space digits number i)))
    ∙ (λ i. head_of (group_back group.key f some few i) (number_back count le i))

-- ---- all lines

same_count : (n : ℕ) → eqb n n ≡ true
same_count n = eq-eqb n n refl

pub lines_back : (group : GroupId) (entries : List Content) → IsBytes group.key → 1 ≤ length group.key → length group.key ≤ 1024 → length entries ≤ 1000000 → All IsWritten entries
    → backup_in (backup_lines group entries) ≡ Ok (record { group = group; entries = entries })
lines_back group entries f some few le each =
    let count = length entries in
    let lines = map entry_words entries in
    let there = length-map entries entry_words in
    ap (λ head. behind_head head lines) (head_back group count f some few le)
    ∙ ap (λ (kept : List (List ℕ)). with_group group (counted count (length lines) (entries_from 2 kept))) (ap (λ (n : ℕ). take n lines) (sym there) ∙ take-length lines)
    ∙ (λ i. with_group group (counted count (there i) (entries_back 2 entries each i)))
    ∙ ap (λ (b : Bool). with_group group (cond b (Ok entries) (Err (min count count + 2)))) (same_count count)

-- ---- the text

entries_lines : (entries : List Content) → lines_text (map entry_words entries) ≡ entries_text entries
entries_lines [] = refl
entries_lines (e ∷ entries) = ap (λ more. entry_line e ++ more) (entries_lines entries)

pub lines_are_text : (group : GroupId) (entries : List Content) → lines_text (backup_lines group entries) ≡ backup_text group (length entries) entries
lines_are_text group entries =
    (λ i. (codes "backup " ++ append_assoc (encode_lower group.key) (32 ∷ decimal (length entries)) (10 ∷ []) i) ++ entries_lines entries i)

-- ---- no line feed stands in a line

within_is : (c : ℕ) → is_digit c ≡ true → is_above_feed c ≡ true
within_is c digit = by (ltb 10 c) refl
  where
    by : (b : Bool) → ltb 10 c ≡ b → b ≡ true
    by true is = refl
    by false is = absurd (low c is digit)
      where
        low : (c : ℕ) → ltb 10 c ≡ false → is_digit c ≡ true → ⊥
        low c is digit = grind (arith, nat_tests)

all_within : (xs : List ℕ) → list_all is_digit xs ≡ true → list_all is_above_feed xs ≡ true
all_within [] f = refl
all_within (x ∷ xs) f = let parts = and_parts (is_digit x) (list_all is_digit xs) f in (λ i. within_is x parts.0 i && all_within xs parts.1 i)

both_within : (xs ys : List ℕ) → list_all is_above_feed xs ≡ true → list_all is_above_feed ys ≡ true → list_all is_above_feed (xs ++ ys) ≡ true
both_within xs ys f g = list_all-append is_above_feed xs ys ∙ (λ i. f i && g i)

decimal_within : (n : ℕ) → n < 2 ^ 64 → list_all is_above_feed (decimal n) ≡ true
decimal_within n small = decimal_by_steps (λ n ds. list_all is_above_feed ds ≡ true) (λ n lt. one n) (λ n ds some held. both_within ds ((48 + n % 10) ∷ []) held (one (n % 10))) n small
  where
    one : (d : ℕ) → list_all is_above_feed ((48 + d) ∷ []) ≡ true
    one d = ap (λ (b : Bool). b && true) (lt-ltb 10 (48 + d) (omega arith))

pub head_within : (group : GroupId) (count : ℕ) → IsBytes group.key → count ≤ 1000000 → list_all is_above_feed (head_words group count) ≡ true
head_within group count f le =
    both_within (encode_lower group.key) (32 ∷ decimal count) (all_within (encode_lower group.key) (digits_are group.key f)) (decimal_within count (omega (arith, le)))

pub entry_within : (e : Content) → IsBytes (entry_text e) → list_all is_above_feed (entry_words e) ≡ true
entry_within e f = all_within (encode_lower (entry_text e)) (digits_are (entry_text e) f)

entries_within : (entries : List Content) → All IsWritten entries → All HasNoFeed (map entry_words entries)
entries_within [] each = All-nil HasNoFeed
entries_within (e ∷ entries) each =
    All-cons HasNoFeed (entry_words e) (map entry_words entries) (entry_within e (All-head IsWritten e entries each).1) (entries_within entries (All-tail IsWritten e entries each))

pub lines_within : (group : GroupId) (entries : List Content) → IsBytes group.key → length entries ≤ 1000000 → All IsWritten entries → All HasNoFeed (backup_lines group entries)
lines_within group entries f le each =
    All-cons HasNoFeed (head_words group (length entries)) (map entry_words entries) (head_within group (length entries) f le) (entries_within entries each)
