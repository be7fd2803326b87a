-- Compact JSON with no float is read back.
use Rattle.std.proofs.Common.{◌≡◌, ℕ, zero, suc, ◌^◌, ◌<◌, ◌≤◌, ◌==◌, ◌&&◌, not, pos, negsuc, Bool, true, false, List, [], ◌∷◌, ◌++◌, refl, sym, ap, ◌∙◌, Some, None, arith, append-nil, decimal, IsUtf8, inl, inr}
use Rattle.std.specs.Prelude.{if◌then◌else◌, option_map, option_and_then}
use Rattle.std.proofs.lemmas.Bool.{and_parts, cases_eq, cases_lt}
use Rattle.std.proofs.lemmas.Bool.Decides.{nat_tests}
use Rattle.std.proofs.lemmas.Fmt.{IsAscii-decimal, IsAscii-signed}
use Rattle.std.proofs.lemmas.List.Folds.{list_all-append}
use Rattle.std.proofs.lemmas.Str.{IsUtf8-append, IsUtf8-nil, IsUtf8-from_ascii, is_utf8-from_IsUtf8}
use Rattle.json.specs.Lex.{tokens}
use Rattle.json.specs.Json as json
use Rattle.json.specs.Tree as tree
use Rattle.json.specs.Print.{escape, escape_byte, quoted}
use Rattle.json.proofs.Printed.Tokens.{tokens-print}
use Rattle.json.proofs.Printed.Trees.{value-json_tokens, ArePrintable-json_tokens}
use Rattle.json.proofs.Printed.Decimals.{IsNumber-decimal, IsNumber-signed_decimal}
use Rattle.json.proofs.Printed.Strings.{escape_byte_plain}
use Rattle.json.proofs.Printed.Utf8.{IsUtf8-are_ascii, IsUtf8-quoted, IsUtf8-boolean}
use Rattle.serde_json.specs.Data.{Num, unsigned, negative, float, Data, null, boolean, number, string, array, object, Items, no_items, item, Members, no_members, member, put}
use Rattle.serde_json.specs.Read.{of_json, of_items, of_members, read, max_depth}
use Rattle.serde_json.specs.Written.{number_text, outline, items_outline, members_outline, comma_if, compact_text, items_text, members_text}
use Rattle.serde_json.proofs.Numbers.{number_of-decimal, number_of-negative}
use Rattle.serde_json.proofs.Texts.{print-outline}
use Rattle.mega_json_laws.proofs.Joining.{AreBelowFirst, below_first, join, join_nil, join_one, none_below, put_last}
use Rattle.mega_json_laws.specs.Whole.{IsBelow}
use Rattle.mega_transcript.specs.Requests.{json_of}
use Rattle.mega_transcript.proofs.Forms.{lacks, decimal-lacks}

-- ---- values that are read back: integers of 64 bits, texts in UTF-8, and names that ascend, nested no deeper than n

abbrev pub IsSoundNumber : Num → Type 0
IsSoundNumber (unsigned n) = n < 2 ^ 64
IsSoundNumber (negative (pos n)) = ⊥
IsSoundNumber (negative (negsuc n)) = n < 2 ^ 63
IsSoundNumber (float x) = ⊥

abbrev mutual
  pub IsSound : ℕ → Data → Type 0
  IsSound n null = Unit {0}
  IsSound n (boolean b) = Unit {0}
  IsSound n (number x) = IsSoundNumber x
  IsSound n (string s) = IsUtf8 s
  IsSound zero (array ds) = ⊥
  IsSound (suc n) (array ds) = AreSoundItems n ds
  IsSound zero (object ms) = ⊥
  IsSound (suc n) (object ms) = AreSoundMembers n ms

  pub AreSoundItems : ℕ → Items → Type 0
  AreSoundItems n no_items = Unit {0}
  AreSoundItems n (item d ds) = IsSound n d × AreSoundItems n ds

  pub AreSoundMembers : ℕ → Members → Type 0
  AreSoundMembers n no_members = Unit {0}
  AreSoundMembers n (member k d ms) = IsUtf8 k × (IsSound n d × (IsBelow k ms × AreSoundMembers n ms))

-- ---- its outline has numbers of JSON, and is no deeper

number_printed : (x : Num) → IsSoundNumber x → tree.HasNumbers (json.number (number_text x))
number_printed (unsigned n) s = IsNumber-decimal n s
number_printed (negative (pos n)) s = absurd s
number_printed (negative (negsuc n)) s = IsNumber-signed_decimal (negsuc n) s
number_printed (float x) s = absurd s

mutual
  printed : (n : ℕ) (d : Data) → IsSound n d → tree.HasNumbers (outline d)
  printed n null s = tt
  printed n (boolean b) s = tt
  printed n (number x) s = number_printed x s
  printed n (string t) s = tt
  printed zero (array ds) s = absurd s
  printed (suc n) (array ds) s = items_printed n ds s
  printed zero (object ms) s = absurd s
  printed (suc n) (object ms) s = members_printed n ms s

  items_printed : (n : ℕ) (ds : Items) → AreSoundItems n ds → tree.ItemsHaveNumbers (items_outline ds)
  items_printed n no_items s = tt
  items_printed n (item d ds) s = (printed n d s.0, items_printed n ds s.1)

  members_printed : (n : ℕ) (ms : Members) → AreSoundMembers n ms → tree.MembersHaveNumbers (members_outline ms)
  members_printed n no_members s = tt
  members_printed n (member k d ms) s = (printed n d s.1.0, members_printed n ms s.1.1.1)

mutual
  shallow : (n : ℕ) (d : Data) → IsSound n d → tree.depth (outline d) ≤ n
  shallow n null s = omega arith
  shallow n (boolean b) s = omega arith
  shallow n (number x) s = omega arith
  shallow n (string t) s = omega arith
  shallow zero (array ds) s = absurd s
  shallow (suc n) (array ds) s = omega (arith, items_shallow n ds s)
  shallow zero (object ms) s = absurd s
  shallow (suc n) (object ms) s = omega (arith, members_shallow n ms s)

  items_shallow : (n : ℕ) (ds : Items) → AreSoundItems n ds → tree.items_depth (items_outline ds) ≤ n
  items_shallow n no_items s = omega arith
  items_shallow n (item d ds) s = omega (arith, shallow n d s.0, items_shallow n ds s.1)

  members_shallow : (n : ℕ) (ms : Members) → AreSoundMembers n ms → tree.members_depth (members_outline ms) ≤ n
  members_shallow n no_members s = omega arith
  members_shallow n (member k d ms) s = omega (arith, shallow n d s.1.0, members_shallow n ms s.1.1.1)

number_again : (x : Num) → IsSoundNumber x → of_json (json.number (number_text x)) ≡ Some (number x)
number_again (unsigned n) s = ap (option_map number) (number_of-decimal n s)
number_again (negative (pos n)) s = absurd s
number_again (negative (negsuc n)) s = ap (option_map number) (number_of-negative n s)
number_again (float x) s = absurd s

mutual
  again : (n : ℕ) (d : Data) → IsSound n d → of_json (outline d) ≡ Some d
  again n null s = refl
  again n (boolean b) s = refl
  again n (number x) s = number_again x s
  again n (string t) s = refl
  again zero (array ds) s = absurd s
  again (suc n) (array ds) s = ap (option_map array) (items_again n ds s)
  again zero (object ms) s = absurd s
  again (suc n) (object ms) s = ap (option_map object) (members_again n ms no_members s (none_below ms))

  items_again : (n : ℕ) (ds : Items) → AreSoundItems n ds → of_items (items_outline ds) ≡ Some ds
  items_again n no_items s = refl
  items_again n (item d ds) s =
      ap (option_and_then (λ e. option_map (item e) (of_items (items_outline ds)))) (again n d s.0) ∙ ap (option_map (item d)) (items_again n ds s.1)

  members_again : (n : ℕ) (ms found : Members) → AreSoundMembers n ms → AreBelowFirst found ms → of_members (members_outline ms) found ≡ Some (join found ms)
  members_again n no_members found s below = ap Some (join_nil found)
  members_again n (member k d ms) found s below =
      ap (option_and_then (λ e. of_members (members_outline ms) (put k e found))) (again n d s.1.0)
      ∙ ap (of_members (members_outline ms)) (put_last k d found below)
      ∙ members_again n ms (join found (member k d no_members)) s.1.1.1 (below_first found k d ms below s.1.1.0)
      ∙ ap Some (join_one found k d ms)

read_again : (d : Data) → IsSound max_depth d → read (compact_text d) ≡ Some d
read_again d s =
    let whole = ap tokens (sym (print-outline d)) ∙ tokens-print (tree.json_tokens (outline d)) (ArePrintable-json_tokens (outline d) (printed max_depth d s)) in
    ap (λ p. option_and_then of_json (option_and_then (λ q. json.if_last q.0 q.1) p))
    (ap (json.value max_depth) (whole ∙ sym (append-nil (tree.json_tokens (outline d)))) ∙ value-json_tokens (outline d) max_depth [] (shallow max_depth d s))
    ∙ again max_depth d s

-- ---- its text is UTF-8

comma_utf8 : (later : Bool) → IsUtf8 (comma_if later)
comma_utf8 true = IsUtf8-are_ascii (44 ∷ []) refl
comma_utf8 false = IsUtf8-nil

number_utf8 : (x : Num) → IsSoundNumber x → IsUtf8 (number_text x)
number_utf8 (unsigned n) s = IsUtf8-from_ascii (decimal n) (IsAscii-decimal n s)
number_utf8 (negative (pos n)) s = absurd s
number_utf8 (negative (negsuc n)) s = IsUtf8-from_ascii (number_text (negative (negsuc n))) (IsAscii-signed (negsuc n) s)
number_utf8 (float x) s = absurd s

mutual
  text_utf8 : (n : ℕ) (d : Data) → IsSound n d → IsUtf8 (compact_text d)
  text_utf8 n null s = IsUtf8-are_ascii (compact_text null) refl
  text_utf8 n (boolean b) s = IsUtf8-boolean b
  text_utf8 n (number x) s = number_utf8 x s
  text_utf8 n (string t) s = IsUtf8-quoted t s
  text_utf8 zero (array ds) s = absurd s
  text_utf8 (suc n) (array ds) s = IsUtf8-append (91 ∷ []) (items_text false ds) (IsUtf8-are_ascii (91 ∷ []) refl) (items_utf8 n false ds s)
  text_utf8 zero (object ms) s = absurd s
  text_utf8 (suc n) (object ms) s = IsUtf8-append (123 ∷ []) (members_text false ms) (IsUtf8-are_ascii (123 ∷ []) refl) (members_utf8 n false ms s)

  items_utf8 : (n : ℕ) (later : Bool) (ds : Items) → AreSoundItems n ds → IsUtf8 (items_text later ds)
  items_utf8 n later no_items s = IsUtf8-are_ascii (93 ∷ []) refl
  items_utf8 n later (item d ds) s =
      IsUtf8-append (comma_if later) (compact_text d ++ items_text true ds) (comma_utf8 later) (IsUtf8-append (compact_text d) (items_text true ds) (text_utf8 n d s.0) (items_utf8 n true ds s.1))

  members_utf8 : (n : ℕ) (later : Bool) (ms : Members) → AreSoundMembers n ms → IsUtf8 (members_text later ms)
  members_utf8 n later no_members s = IsUtf8-are_ascii (125 ∷ []) refl
  members_utf8 n later (member k d ms) s =
      IsUtf8-append (comma_if later) (quoted k ++ 58 ∷ (compact_text d ++ members_text true ms)) (comma_utf8 later)
      (IsUtf8-append (quoted k) (58 ∷ (compact_text d ++ members_text true ms)) (IsUtf8-quoted k s.0)
      (IsUtf8-append (58 ∷ []) (compact_text d ++ members_text true ms) (IsUtf8-are_ascii (58 ∷ []) refl)
      (IsUtf8-append (compact_text d) (members_text true ms) (text_utf8 n d s.1.0) (members_utf8 n true ms s.1.1.1))))

pub json_again : (d : Data) → IsSound max_depth d → json_of (compact_text d) ≡ Some d
unfolding json_of
json_again d s = ap (λ b. if b then read (compact_text d) else None) (is_utf8-from_IsUtf8 (compact_text d) (text_utf8 max_depth d s)) ∙ read_again d s

-- ---- its text has no line feed

pub both : (end : ℕ) (a b : List ℕ) → lacks end a ≡ true → lacks end b ≡ true → lacks end (a ++ b) ≡ true
both end a b f g = list_all-append (λ c. not (c == end)) a b ∙ (ap (λ t. t && lacks end b) f ∙ g)

-- what stands for the bytes below n has none
abbrev escaped_below : ℕ → Bool
escaped_below zero = true
escaped_below (suc n) = lacks 10 (escape_byte n) && escaped_below n

escape_below : (n : ℕ) → escaped_below n ≡ true → (x : ℕ) → x < n → lacks 10 (escape_byte x) ≡ true
escape_below zero e x h = absurd (omega arith)
escape_below (suc n) e x h =
    let p = and_parts (lacks 10 (escape_byte n)) (escaped_below n) e in
    elim (cases_eq x n) [ inl same ↦ rw same p.0 | inr other ↦ escape_below n p.1 x (omega arith) ]

all_escaped : escaped_below 128 ≡ true
unfolding escape_byte
all_escaped = refl

byte_told : (x : ℕ) → lacks 10 (escape_byte x) ≡ true
byte_told x = elim (cases_lt x 128) [
  | inl small ↦ escape_below 128 all_escaped x small
  | inr big ↦
      let other : not (x == 10) ≡ true = grind (arith, nat_tests) in
      rw (escape_byte_plain x (λ e. omega arith) (λ e. omega arith) (omega arith)) (ap (λ t. t && true) other)
]

escape_told : (s : List ℕ) → lacks 10 (escape s) ≡ true
escape_told [] = refl
escape_told (x ∷ s) = both 10 (escape_byte x) (escape s) (byte_told x) (escape_told s)

quoted_told : (s : List ℕ) → lacks 10 (quoted s) ≡ true
quoted_told s = both 10 (escape s) (34 ∷ []) (escape_told s) refl

number_told : (x : Num) → IsSoundNumber x → lacks 10 (number_text x) ≡ true
number_told (unsigned n) s = decimal-lacks 10 n (omega arith) s
number_told (negative (pos n)) s = absurd s
number_told (negative (negsuc n)) s = decimal-lacks 10 (suc n) (omega arith) (omega arith)
number_told (float x) s = absurd s

comma_told : (later : Bool) → lacks 10 (comma_if later) ≡ true
comma_told true = refl
comma_told false = refl

boolean_told : (b : Bool) → lacks 10 (compact_text (boolean b)) ≡ true
boolean_told true = refl
boolean_told false = refl

mutual
  pub text_told : (n : ℕ) (d : Data) → IsSound n d → lacks 10 (compact_text d) ≡ true
  text_told n null s = refl
  text_told n (boolean b) s = boolean_told b
  text_told n (number x) s = number_told x s
  text_told n (string t) s = quoted_told t
  text_told zero (array ds) s = absurd s
  text_told (suc n) (array ds) s = items_told n false ds s
  text_told zero (object ms) s = absurd s
  text_told (suc n) (object ms) s = members_told n false ms s

  items_told : (n : ℕ) (later : Bool) (ds : Items) → AreSoundItems n ds → lacks 10 (items_text later ds) ≡ true
  items_told n later no_items s = refl
  items_told n later (item d ds) s =
      both 10 (comma_if later) (compact_text d ++ items_text true ds) (comma_told later) (both 10 (compact_text d) (items_text true ds) (text_told n d s.0) (items_told n true ds s.1))

  members_told : (n : ℕ) (later : Bool) (ms : Members) → AreSoundMembers n ms → lacks 10 (members_text later ms) ≡ true
  members_told n later no_members s = refl
  members_told n later (member k d ms) s =
      both 10 (comma_if later) (quoted k ++ 58 ∷ (compact_text d ++ members_text true ms)) (comma_told later)
      (both 10 (quoted k) (58 ∷ (compact_text d ++ members_text true ms)) (quoted_told k)
      (both 10 (compact_text d) (members_text true ms) (text_told n d s.1.0) (members_told n true ms s.1.1.1)))
