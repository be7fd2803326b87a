-- What is read of a text of UTF-8 is whole: its texts are UTF-8, its integers have 64 bits, and its names ascend.
use Rattle.std.proofs.Common.{◌≡◌, ℕ, zero, suc, ◌^◌, ◌+◌, ◌<◌, ◌≤◌, ◌==◌, ◌&&◌, cond, pos, negsuc, Bool, true, false, Option, Some, None, List, [], ◌∷◌, length, drop, refl, sym, ◌∙◌, ap, subst, arith, IsUtf8, Ordering, Less, Equal, Greater, nat_cmp}
use Rattle.std.specs.Prelude.{nat_lt, nat_le, option_map, option_and_then, slice_index, if◌then◌else◌}
use Rattle.std.specs.Ordering.{match_ordering, ordering_reverse}
use Rattle.std.specs.Cmp.Lexicographic.{slice_cmp}
use Rattle.std.specs.Float.{binary64, float_is_finite}
use Rattle.std.specs.Str.{is_utf8}
use Rattle.std.proofs.lemmas.Bool.Decides.{nat_tests}
use Rattle.std.proofs.lemmas.Bool.{and_parts}
use Rattle.std.proofs.lemmas.Cmp.{nat_list_cmp_total}
use Rattle.std.proofs.lemmas.Str.{IsUtf8-from_is_utf8}
use Rattle.fast_float.specs.Text.{Parts, digits_of, minus, nearest, scan, with_sign}
use Rattle.json.specs.Lex.{tokens}
use Rattle.json.specs.Token.{Token}
use Rattle.json.specs.Json as json
use Rattle.serde_json.specs.Data.{Num, unsigned, negative, float, Data, null, boolean, number, string, array, object, Items, no_items, item, Members, no_members, member, put}
use Rattle.serde_json.specs.Read.{float_of, is_integer, max_depth, number_from, number_of, of_items, of_json, of_members, read}
use Rattle.mega_json_laws.specs.Whole.{AreWholeItems, AreWholeMembers, IsBelow, IsWhole, IsWholeNumber}
use Rattle.mega_json_laws.proofs.Tokens.{tokens_good}
use Rattle.mega_json_laws.proofs.Trees.{AreCleanItems, AreCleanMembers, IsClean, Reads, value_read}

abbrev IsSome : {A : Type 0} → (A → Type 0) → Option A → Type 0
IsSome P None = Unit {0}
IsSome P (Some a) = P a

mapped : {A B : Type 0} (P : A → Type 0) (Q : B → Type 0) (f : A → B) (o : Option A) → ((a : A) → P a → Q (f a)) → IsSome P o → IsSome Q (option_map f o)
mapped P Q f None keeps is = tt
mapped P Q f (Some a) keeps is = keeps a is

then_some : {A B : Type 0} (P : A → Type 0) (Q : B → Type 0) (o : Option A) (f : A → Option B) → IsSome P o → ((a : A) → P a → IsSome Q (f a)) → IsSome Q (option_and_then f o)
then_some P Q None f is more = tt
then_some P Q (Some a) f is more = more a is

-- ---- numbers

either : {A : Type 0} (P : A → Type 0) (t : Bool) (x y : Option A) → (t ≡ true → IsSome P x) → IsSome P y → IsSome P (cond t x y)
either P true x y one two = one refl
either P false x y one two = two

float_whole : (sign : Bool) (p : Parts) → IsSome IsWholeNumber (float_of sign p)
float_whole sign p = either IsWholeNumber (float_is_finite (nearest binary64 sign p)) (Some (float (nearest binary64 sign p))) None (λ t. tt) tt

less : (m n : ℕ) → nat_lt m n ≡ true → m < n
less m n t = grind (arith, nat_tests)

at_most : (m n : ℕ) → nat_le m n ≡ true → m ≤ n
at_most m n t = grind (arith, nat_tests)

below_zero : (n : ℕ) → 0 < n → n ≤ 2 ^ 63 → IsWholeNumber (negative (with_sign true n))
below_zero zero some most = absurd (omega arith)
below_zero (suc n) some most = omega arith

number_whole : (s : List ℕ) → IsSome IsWholeNumber (number_of s)
unfolding number_of
number_whole s = either IsWholeNumber (slice_index s 0 == minus) (number_from true (scan (drop 1 s))) (number_from false (scan s)) (λ t. by_minus (scan (drop 1 s))) (plain (scan s))
  where
    plain : (p : Parts) → IsSome IsWholeNumber (number_from false p)
    plain p = either IsWholeNumber (is_integer p && nat_lt (digits_of p) (2 ^ 64)) (Some (unsigned (digits_of p))) (float_of false p) (λ t. less (digits_of p) (2 ^ 64) (and_parts (is_integer p) (nat_lt (digits_of p) (2 ^ 64)) t).1) (float_whole false p)

    by_minus : (p : Parts) → IsSome IsWholeNumber (number_from true p)
    by_minus p = either IsWholeNumber (is_integer p && nat_lt 0 (digits_of p) && nat_le (digits_of p) (2 ^ 63)) (Some (negative (with_sign true (digits_of p)))) (float_of true p)
        (λ t. let whole = and_parts (is_integer p && nat_lt 0 (digits_of p)) (nat_le (digits_of p) (2 ^ 63)) t in let first = and_parts (is_integer p) (nat_lt 0 (digits_of p)) whole.0 in
        below_zero (digits_of p) (less 0 (digits_of p) first.1) (at_most (digits_of p) (2 ^ 63) whole.1)) (float_whole true p)

-- ---- members go in by name

below_put : (l k : List ℕ) (d : Data) (ms : Members) → slice_cmp nat_cmp l k ≡ Less → IsBelow l ms → IsBelow l (put k d ms)
below_put l k d no_members less below = less
below_put l k d (member m e ms) less below = go (slice_cmp nat_cmp k m)
  where
    go : (o : Ordering) → IsBelow l (match_ordering o (member k d (member m e ms)) (member m d ms) (member m e (put k d ms)))
    go Less = less
    go Equal = below
    go Greater = below

turned : (k l : List ℕ) → slice_cmp nat_cmp k l ≡ Greater → slice_cmp nat_cmp l k ≡ Less
turned k l e = nat_list_cmp_total.antisymm l k ∙ ap ordering_reverse e

pub put_whole : (k : List ℕ) (d : Data) (ms : Members) → IsUtf8 k → IsWhole d → AreWholeMembers ms → AreWholeMembers (put k d ms)
put_whole k d no_members u whole many = (u, (whole, (tt, tt)))
put_whole k d (member l e ms) u whole many = go (slice_cmp nat_cmp k l) refl (put_whole k d ms u whole many.1.1.1)
  where
    go : (o : Ordering) → slice_cmp nat_cmp k l ≡ o → AreWholeMembers (put k d ms) → AreWholeMembers (match_ordering o (member k d (member l e ms)) (member l d ms) (member l e (put k d ms)))
    go Less is more = (u, (whole, (is, many)))
    go Equal is more = (many.0, (whole, many.1.1))
    go Greater is more = (many.0, (many.1.0, (below_put l k d ms (turned k l is) many.1.1.0, more)))

mutual
  json_whole : (j : json.Json) → IsClean j → IsSome IsWhole (of_json j)
  json_whole json.null clean = tt
  json_whole (json.boolean b) clean = tt
  json_whole (json.number s) clean = mapped IsWholeNumber IsWhole number (number_of s) (λ x whole. whole) (number_whole s)
  json_whole (json.string s) clean = clean
  json_whole (json.array js) clean = mapped AreWholeItems IsWhole array (of_items js) (λ ds whole. whole) (items_whole js clean)
  json_whole (json.object ms) clean = mapped AreWholeMembers IsWhole object (of_members ms no_members) (λ ds whole. whole) (members_whole ms no_members clean tt)

  items_whole : (js : json.Items) → AreCleanItems js → IsSome AreWholeItems (of_items js)
  items_whole json.no_items clean = tt
  items_whole (json.item j js) clean =
      then_some IsWhole AreWholeItems (of_json j) (λ d. option_map (item d) (of_items js)) (json_whole j clean.0)
      (λ d whole. mapped AreWholeItems AreWholeItems (item d) (of_items js) (λ ds many. (whole, many)) (items_whole js clean.1))

  members_whole : (ms : json.Members) (found : Members) → AreCleanMembers ms → AreWholeMembers found → IsSome AreWholeMembers (of_members ms found)
  members_whole json.no_members found clean many = many
  members_whole (json.member k j ms) found clean many =
      then_some IsWhole AreWholeMembers (of_json j) (λ d. of_members ms (put k d found)) (json_whole j clean.1.0)
      (λ d whole. members_whole ms (put k d found) clean.1.1 (put_whole k d found clean.0 whole many))

last_clean : (j : json.Json) (ts : List Token) → IsClean j → IsSome IsClean (json.if_last j ts)
last_clean j [] clean = clean
last_clean j (t ∷ ts) clean = tt

last_read : (o : Option (json.Json × List Token)) → Reads IsClean o → IsSome IsClean (option_and_then (λ p. json.if_last p.0 p.1) o)
last_read None reads = tt
last_read (Some p) reads = last_clean p.0 p.1 reads.0

pub read_whole : (text : List ℕ) (d : Data) → is_utf8 text ≡ true → read text ≡ Some d → IsWhole d
read_whole text d utf8 reads =
    let good = tokens_good text (IsUtf8-from_is_utf8 text utf8) in
    let parsed = json.value max_depth (tokens text) in
    subst (IsSome IsWhole) reads
    (then_some IsClean IsWhole (option_and_then (λ p. json.if_last p.0 p.1) parsed) of_json (last_read parsed (value_read max_depth (tokens text) good)) (λ j clean. json_whole j clean))
