-- The compact text of a JSON tree, whose members stand in any order, is read as the tree.
use Rattle.std.proofs.Common.{◌≡◌, ℕ, zero, suc, ◌≤◌, Bool, true, false, List, [], ◌∷◌, ◌++◌, refl, sym, ap, ◌∙◌, Some, arith, append-nil, append_assoc, IsUtf8}
use Rattle.std.specs.Prelude.{option_and_then}
use Rattle.std.specs.Str.{is_utf8}
use Rattle.std.proofs.lemmas.Str.{IsUtf8-append, IsUtf8-nil, is_utf8-from_IsUtf8}
use Rattle.json.specs.Token.{Token}
use Rattle.json.specs.Lex.{tokens}
use Rattle.json.specs.Json as json
use Rattle.json.specs.Tree as tree
use Rattle.json.specs.Print.{IsNumber, print, print_from, quoted, token_text}
use Rattle.json.proofs.Printed.Tokens.{tokens-print}
use Rattle.json.proofs.Printed.Trees.{value-json_tokens, ArePrintable-json_tokens}
use Rattle.json.proofs.Printed.Utf8.{IsUtf8-are_ascii, IsUtf8-quoted, IsUtf8-boolean}
use Rattle.serde_json.specs.Data.{Data}
use Rattle.serde_json.specs.Read.{of_json, read, max_depth}
use Rattle.serde_json.specs.Written.{outline, comma_if, compact_text}
use Rattle.serde_json.proofs.Texts.{print-outline}

-- ---- the text of a tree

abbrev mutual
  pub text_of : json.Json → List ℕ
  text_of json.null = token_text Token.null
  text_of (json.boolean b) = token_text (Token.boolean b)
  text_of (json.number s) = s
  text_of (json.string s) = quoted s
  text_of (json.array js) = 91 ∷ items_text false js
  text_of (json.object ms) = 123 ∷ members_text false ms

  pub items_text : Bool → json.Items → List ℕ
  items_text later json.no_items = 93 ∷ []
  items_text later (json.item j js) = comma_if later ++ (text_of j ++ items_text true js)

  pub members_text : Bool → json.Members → List ℕ
  members_text later json.no_members = 125 ∷ []
  members_text later (json.member k j ms) = comma_if later ++ (quoted k ++ 58 ∷ (text_of j ++ members_text true ms))

regroup : (q a b c : List ℕ) → (q ++ 58 ∷ []) ++ (a ++ (b ++ c)) ≡ (q ++ 58 ∷ (a ++ b)) ++ c
regroup q a b c = append_assoc q _ _ ∙ sym (append_assoc q _ c ∙ ap (λ s. q ++ 58 ∷ s) (append_assoc a b c))

regroup_item : (q a b c : List ℕ) → q ++ (a ++ (b ++ c)) ≡ (q ++ (a ++ b)) ++ c
regroup_item q a b c = simp append_assoc

print_member : (k : List ℕ) (j : json.Json) (ms : json.Members) (ts : List Token)
    → print_from false (tree.json_tokens j ++ (tree.members_tokens ms ++ ts)) ≡ text_of j ++ print_from true (tree.members_tokens ms ++ ts)
    → print_from true (tree.members_tokens ms ++ ts) ≡ members_text true ms ++ print_from true ts
    → (quoted k ++ 58 ∷ []) ++ print_from false ((tree.json_tokens j ++ tree.members_tokens ms) ++ ts) ≡ (quoted k ++ 58 ∷ (text_of j ++ members_text true ms)) ++ print_from true ts
print_member k j ms ts value rest =
    let whole = ap (print_from false) (append_assoc (tree.json_tokens j) (tree.members_tokens ms) ts) ∙ value in
    ap (λ s. (quoted k ++ 58 ∷ []) ++ s) (whole ∙ ap (λ s. text_of j ++ s) rest) ∙ regroup (quoted k) (text_of j) (members_text true ms) (print_from true ts)

mutual
  unfolding print_from

  print_value : (later : Bool) (j : json.Json) (ts : List Token) → print_from later (tree.json_tokens j ++ ts) ≡ comma_if later ++ (text_of j ++ print_from true ts)
  print_value true json.null ts = refl
  print_value false json.null ts = refl
  print_value true (json.boolean b) ts = refl
  print_value false (json.boolean b) ts = refl
  print_value true (json.number n) ts = refl
  print_value false (json.number n) ts = refl
  print_value true (json.string s) ts = refl
  print_value false (json.string s) ts = refl
  print_value true (json.array js) ts = ap (λ s. 44 ∷ 91 ∷ s) (print_items false js ts)
  print_value false (json.array js) ts = ap (λ s. 91 ∷ s) (print_items false js ts)
  print_value true (json.object ms) ts = ap (λ s. 44 ∷ 123 ∷ s) (print_members false ms ts)
  print_value false (json.object ms) ts = ap (λ s. 123 ∷ s) (print_members false ms ts)

  print_items : (later : Bool) (js : json.Items) (ts : List Token) → print_from later (tree.items_tokens js ++ ts) ≡ items_text later js ++ print_from true ts
  print_items true json.no_items ts = refl
  print_items false json.no_items ts = refl
  print_items later (json.item j js) ts =
      let rest = tree.items_tokens js in
      ap (print_from later) (append_assoc (tree.json_tokens j) rest ts) ∙ print_value later j (rest ++ ts) ∙ ap (λ s. comma_if later ++ (text_of j ++ s)) (print_items true js ts)
      ∙ regroup_item (comma_if later) (text_of j) (items_text true js) (print_from true ts)

  print_members : (later : Bool) (ms : json.Members) (ts : List Token) → print_from later (tree.members_tokens ms ++ ts) ≡ members_text later ms ++ print_from true ts
  print_members true json.no_members ts = refl
  print_members false json.no_members ts = refl
  print_members true (json.member k j ms) ts = ap (λ s. 44 ∷ s) (print_member k j ms ts (print_value false j (tree.members_tokens ms ++ ts)) (print_members true ms ts))
  print_members false (json.member k j ms) ts = print_member k j ms ts (print_value false j (tree.members_tokens ms ++ ts)) (print_members true ms ts)

pub printed : (j : json.Json) → print (tree.json_tokens j) ≡ text_of j
unfolding print_from
printed j = ap print (sym (append-nil (tree.json_tokens j))) ∙ print_value false j [] ∙ append-nil (text_of j)

-- the text of a value
pub value_is : (d : Data) → compact_text d ≡ text_of (outline d)
value_is d = sym (print-outline d) ∙ printed (outline d)

-- ---- trees with numbers of JSON and texts in UTF-8, nested no deeper than n

abbrev mutual
  pub IsGood : ℕ → json.Json → Type 0
  IsGood n json.null = Unit {0}
  IsGood n (json.boolean b) = Unit {0}
  IsGood n (json.number s) = IsNumber s × IsUtf8 s
  IsGood n (json.string s) = IsUtf8 s
  IsGood zero (json.array js) = ⊥
  IsGood (suc n) (json.array js) = AreGood n js
  IsGood zero (json.object ms) = ⊥
  IsGood (suc n) (json.object ms) = HasGood n ms

  pub AreGood : ℕ → json.Items → Type 0
  AreGood n json.no_items = Unit {0}
  AreGood n (json.item j js) = IsGood n j × AreGood n js

  pub HasGood : ℕ → json.Members → Type 0
  HasGood n json.no_members = Unit {0}
  HasGood n (json.member k j ms) = IsUtf8 k × (IsGood n j × HasGood n ms)

mutual
  numbers : (n : ℕ) (j : json.Json) → IsGood n j → tree.HasNumbers j
  numbers n json.null g = tt
  numbers n (json.boolean b) g = tt
  numbers n (json.number s) g = g.0
  numbers n (json.string s) g = tt
  numbers zero (json.array js) g = absurd g
  numbers (suc n) (json.array js) g = items_numbers n js g
  numbers zero (json.object ms) g = absurd g
  numbers (suc n) (json.object ms) g = members_numbers n ms g

  items_numbers : (n : ℕ) (js : json.Items) → AreGood n js → tree.ItemsHaveNumbers js
  items_numbers n json.no_items g = tt
  items_numbers n (json.item j js) g = (numbers n j g.0, items_numbers n js g.1)

  members_numbers : (n : ℕ) (ms : json.Members) → HasGood n ms → tree.MembersHaveNumbers ms
  members_numbers n json.no_members g = tt
  members_numbers n (json.member k j ms) g = (numbers n j g.1.0, members_numbers n ms g.1.1)

mutual
  shallow : (n : ℕ) (j : json.Json) → IsGood n j → tree.depth j ≤ n
  shallow n json.null g = omega arith
  shallow n (json.boolean b) g = omega arith
  shallow n (json.number s) g = omega arith
  shallow n (json.string s) g = omega arith
  shallow zero (json.array js) g = absurd g
  shallow (suc n) (json.array js) g = omega (arith, items_shallow n js g)
  shallow zero (json.object ms) g = absurd g
  shallow (suc n) (json.object ms) g = omega (arith, members_shallow n ms g)

  items_shallow : (n : ℕ) (js : json.Items) → AreGood n js → tree.items_depth js ≤ n
  items_shallow n json.no_items g = omega arith
  items_shallow n (json.item j js) g = omega (arith, shallow n j g.0, items_shallow n js g.1)

  members_shallow : (n : ℕ) (ms : json.Members) → HasGood n ms → tree.members_depth ms ≤ n
  members_shallow n json.no_members g = omega arith
  members_shallow n (json.member k j ms) g = omega (arith, shallow n j g.1.0, members_shallow n ms g.1.1)

comma_utf8 : (later : Bool) → IsUtf8 (comma_if later)
comma_utf8 true = IsUtf8-are_ascii (44 ∷ []) refl
comma_utf8 false = IsUtf8-nil

mutual
  text_utf8 : (n : ℕ) (j : json.Json) → IsGood n j → IsUtf8 (text_of j)
  text_utf8 n json.null g = IsUtf8-are_ascii (text_of json.null) refl
  text_utf8 n (json.boolean b) g = IsUtf8-boolean b
  text_utf8 n (json.number s) g = g.1
  text_utf8 n (json.string s) g = IsUtf8-quoted s g
  text_utf8 zero (json.array js) g = absurd g
  text_utf8 (suc n) (json.array js) g = IsUtf8-append (91 ∷ []) (items_text false js) (IsUtf8-are_ascii (91 ∷ []) refl) (items_utf8 n false js g)
  text_utf8 zero (json.object ms) g = absurd g
  text_utf8 (suc n) (json.object ms) g = IsUtf8-append (123 ∷ []) (members_text false ms) (IsUtf8-are_ascii (123 ∷ []) refl) (members_utf8 n false ms g)

  items_utf8 : (n : ℕ) (later : Bool) (js : json.Items) → AreGood n js → IsUtf8 (items_text later js)
  items_utf8 n later json.no_items g = IsUtf8-are_ascii (93 ∷ []) refl
  items_utf8 n later (json.item j js) g =
      IsUtf8-append (comma_if later) (text_of j ++ items_text true js) (comma_utf8 later) (IsUtf8-append (text_of j) (items_text true js) (text_utf8 n j g.0) (items_utf8 n true js g.1))

  members_utf8 : (n : ℕ) (later : Bool) (ms : json.Members) → HasGood n ms → IsUtf8 (members_text later ms)
  members_utf8 n later json.no_members g = IsUtf8-are_ascii (125 ∷ []) refl
  members_utf8 n later (json.member k j ms) g =
      IsUtf8-append (comma_if later) (quoted k ++ 58 ∷ (text_of j ++ members_text true ms)) (comma_utf8 later)
      (IsUtf8-append (quoted k) (58 ∷ (text_of j ++ members_text true ms)) (IsUtf8-quoted k g.0)
      (IsUtf8-append (58 ∷ []) (text_of j ++ members_text true ms) (IsUtf8-are_ascii (58 ∷ []) refl)
      (IsUtf8-append (text_of j) (members_text true ms) (text_utf8 n j g.1.0) (members_utf8 n true ms g.1.1))))

-- ---- its text is read

pub utf8_text : (j : json.Json) → IsGood max_depth j → is_utf8 (text_of j) ≡ true
utf8_text j g = is_utf8-from_IsUtf8 (text_of j) (text_utf8 max_depth j g)

pub reads_tree : (j : json.Json) (d : Data) → IsGood max_depth j → of_json j ≡ Some d → read (text_of j) ≡ Some d
reads_tree j d g is =
    let whole = ap tokens (sym (printed j)) ∙ tokens-print (tree.json_tokens j) (ArePrintable-json_tokens j (numbers max_depth j g)) in
    ap (λ p. option_and_then of_json (option_and_then (λ q. json.if_last q.0 q.1) p))
    (ap (json.value max_depth) (whole ∙ sym (append-nil (tree.json_tokens j))) ∙ value-json_tokens j max_depth [] (shallow max_depth j g))
    ∙ is
