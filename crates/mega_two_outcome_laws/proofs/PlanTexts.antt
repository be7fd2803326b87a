-- The texts that put, make or drop a plan are read as these requests.
use Rattle.std.proofs.Common.{◌≡◌, ℕ, zero, suc, ◌+◌, ◌-◌, ◌^◌, ◌<◌, ◌&&◌, Bool, true, false, pos, List, [], ◌∷◌, ◌++◌, length, take, drop, refl, sym, ap, ◌∙◌, arith, append_assoc, decimal, Option, Some, None, Ok, IsUtf8}
use Rattle.std.specs.Prelude.{codes, nat_le, if◌then◌else◌, option_map, option_and_then}
use Rattle.std.specs.Fmt.{digits}
use Rattle.std.specs.List.{list_all}
use Rattle.std.specs.Option.{option_to_list}
use Rattle.std.specs.Result.{result_ok}
use Rattle.std.proofs.lemmas.Bool.{and_parts}
use Rattle.std.proofs.lemmas.Fmt.{IsAscii-decimal}
use Rattle.std.proofs.lemmas.Str.{IsUtf8-from_ascii}
use Rattle.hex.specs.Hex.{IsBytes, encode_lower}
use Rattle.json.specs.Json as json
use Rattle.json.specs.Print.{escape_byte}
use Rattle.json.proofs.Printed.Decimals.{IsNumber-decimal}
use Rattle.serde_json.specs.Data.{unsigned, Data, number as number_data, string, array, object, no_items, item, no_members, member, put}
use Rattle.serde_json.specs.Find.{get}
use Rattle.serde_json.specs.Read.{of_json}
use Rattle.serde_json.proofs.Numbers.{number_of-decimal}
use Rattle.mega_base.specs.declared.values.Kind.{Kind}
use Rattle.mega_base.specs.declared.values.Kind.TheVariants as kinds
use Rattle.mega_base.specs.declared.values.Value.{Value}
use Rattle.mega_base.specs.declared.values.Value.TheVariants.{Int32, Str, Raw}
use Rattle.mega_base.specs.declared.values.Row.{Row}
use Rattle.mega_entry.specs.declared.content.Write.{Write}
use Rattle.mega_schema.specs.declared.schema.Property.{Property}
use Rattle.mega_schema.specs.declared.schema.Table.{Table}
use Rattle.mega_schema.specs.declared.schema.Schema.{Schema}
use Rattle.mega_schema.specs.Rules.{kind_at}
use Rattle.mega_schema.specs.Shaping.{shape_of, table_at, kinds_of, root_kinds}
use Rattle.mega_keys.specs.Spelling.{spell_all, root_part, rest_part, group_bytes}
use Rattle.mega_index.specs.Cells.{values_of, key_values, leading}
use Rattle.mega_index.specs.Fits.{numbered}
use Rattle.mega_outcome.specs.declared.transaction.Check.{Check}
use Rattle.mega_outcome.specs.declared.transaction.Check.TheVariants.{Gone, Is}
use Rattle.mega_outcome.specs.declared.transaction.Change.TheVariants.{Put}
use Rattle.mega_outcome.specs.Places.{key_in}
use Rattle.mega_outcome.specs.Checks.{may_have, may_be, may_be_in}
use Rattle.mega_keys.specs.Fit.{has_kind}
use Rattle.mega_syntax.specs.declared.need.Need.{Need}
use Rattle.mega_syntax.specs.declared.need.Need.TheVariants.{Required, Optional, Repeated}
use Rattle.mega_two_laws.specs.World.{State, Undecided, state_of}
use Rattle.mega_schedule.specs.Values.{property_number, properties_of, primary_of, first_kind, value_of, bytes_of, values_at, group_of}
use Rattle.mega_schedule.specs.Rows.{cells_in}
use Rattle.mega_two_driver.specs.Texts.{quoted, transaction_text, plan_group as plan_group_text, plan_put, no_plan_check, undecided_check, planning_text, deciding_text, state_digit}
use Rattle.mega_two_driver.specs.Lines.{is_name, is_letter}
use Rattle.mega_two_driver.specs.Fits.{write_of, with_write, transaction_of, transaction_fits}
use Rattle.mega_two_outcome_laws.specs.Places.{plans, place, group_in, plan_group, plan_place}
use Rattle.mega_two_outcome_laws.specs.Shown.{cell, number, state_in}
use Rattle.mega_two_outcome_laws.specs.Requests.{asking, row, number_in, PutsPlan, IsPlanning, IsDeciding}
use Rattle.mega_two_outcome_laws.specs.Ready.{IsReady, TextFits}
use Rattle.mega_two_outcome_laws.proofs.Keyed.{names_key, group_is}
use Rattle.mega_two_outcome_laws.proofs.Changing.{put_keyed}
use Rattle.mega_two_outcome_laws.proofs.Outcomes.{Fit, fit}
use Rattle.mega_two_outcome_laws.proofs.Trees.{text_of, IsGood}
use Rattle.mega_two_outcome_laws.proofs.Asking.{AreFine, read_as}
use Rattle.mega_two_outcome_laws.proofs.Cells.{cell_is}
use Rattle.mega_two_outcome_laws.proofs.Tabled.{numbered_slice}
use Rattle.mega_two_outcome_laws.proofs.Letters.{is_text, all_plain, letter_plain, plain_quoted, plain_utf8, hex_plain, hex_is, hex_back}
use Rattle.mega_two_outcome_laws.proofs.PlanTable.{PlanTable}

-- ---- the trees

abbrev texts : List ℕ → json.Json
texts name = json.array (json.item (json.string name) json.no_items)

abbrev gone_tree : List ℕ → json.Json
gone_tree name = json.array (json.item (json.object (json.member (codes "gone") (json.string (codes "TwoPlan")) (json.member (codes "key") (texts name) json.no_members))) json.no_items)

abbrev state_tree : List ℕ → json.Json
state_tree name =
    json.array (json.item (json.object (json.member (codes "is") (json.string (codes "TwoPlan")) (json.member (codes "key") (texts name) (json.member (codes "property") (json.string (codes "state"))
    (json.member (codes "values") (json.array (json.item (json.number (decimal 0)) json.no_items)) json.no_members))))) json.no_items)

abbrev group_tree : List ℕ → json.Json
group_tree name = json.array (json.item (json.string (codes "TwoPlan")) (json.item (texts name) json.no_items))

abbrev put_tree : List ℕ → List ℕ → ℕ → json.Json
put_tree name hex n =
    json.array (json.item (json.object (json.member (codes "put") (json.string (codes "TwoPlan")) (json.member (codes "row")
    (json.object (json.member (codes "gid") (json.string name) (json.member (codes "plan") (json.string hex) (json.member (codes "state") (json.number (decimal n)) json.no_members)))) json.no_members))) json.no_items)

-- ---- their texts

two_ends : (front middle end : List ℕ) → (front ++ middle) ++ end ≡ front ++ (middle ++ end)
two_ends front middle end = append_assoc front middle end

gone_text : (name : List ℕ) → is_text name ≡ true → no_plan_check name ≡ text_of (gone_tree name)
unfolding no_plan_check escape_byte
gone_text name plain =
    sym (ap (λ x. codes "[{\"gone\":\"TwoPlan\",\"key\":[" ++ x) (two_ends (quoted name ++ 93 ∷ []) (125 ∷ []) (93 ∷ [])))
    ∙ ap (λ q. codes "[{\"gone\":\"TwoPlan\",\"key\":[" ++ (((q ++ 93 ∷ []) ++ 125 ∷ []) ++ 93 ∷ [])) (sym (plain_quoted name plain))

state_text : (name : List ℕ) → is_text name ≡ true → undecided_check name ≡ text_of (state_tree name)
unfolding undecided_check escape_byte digits
state_text name plain =
    sym (ap (λ x. codes "[{\"is\":\"TwoPlan\",\"key\":[" ++ x) (two_ends (quoted name ++ 93 ∷ []) (codes ",\"property\":\"state\",\"values\":[0]}") (93 ∷ [])))
    ∙ ap (λ q. codes "[{\"is\":\"TwoPlan\",\"key\":[" ++ (((q ++ 93 ∷ []) ++ codes ",\"property\":\"state\",\"values\":[0]}") ++ 93 ∷ [])) (sym (plain_quoted name plain))

group_text : (name : List ℕ) → is_text name ≡ true → plan_group_text name ≡ text_of (group_tree name)
unfolding escape_byte
group_text name plain = ap (λ q. codes "[\"TwoPlan\",[" ++ ((q ++ 93 ∷ []) ++ 93 ∷ [])) (sym (plain_quoted name plain))

five : (q a h b d x y : List ℕ) → q ++ (a ++ (h ++ (b ++ (d ++ (x ++ y))))) ≡ (q ++ (a ++ (h ++ (b ++ (d ++ x))))) ++ y
five q a h b d x y = simp append_assoc

put_text : (name hex : List ℕ) (n : ℕ) (digit : List ℕ) → is_text name ≡ true → is_text hex ≡ true → digit ≡ decimal n
    → codes "[{\"put\":\"TwoPlan\",\"row\":{\"gid\":" ++ (quoted name ++ (codes ",\"plan\":" ++ (quoted hex ++ (codes ",\"state\":" ++ (digit ++ codes "}}]"))))) ≡ text_of (put_tree name hex n)
unfolding escape_byte
put_text name hex n digit plain hexed is =
    ap (λ x. codes "[{\"put\":\"TwoPlan\",\"row\":{\"gid\":" ++ x) (five (quoted name) (codes ",\"plan\":") (quoted hex) (codes ",\"state\":") digit (codes "}}") (93 ∷ []))
    ∙ ap (λ x. codes "[{\"put\":\"TwoPlan\",\"row\":{\"gid\":" ++ (x ++ 93 ∷ [])) (five (quoted name) (codes ",\"plan\":") (quoted hex) (codes ",\"state\":") digit (125 ∷ []) (125 ∷ []))
    ∙ (λ i. codes "[{\"put\":\"TwoPlan\",\"row\":{\"gid\":" ++ (((sym (plain_quoted name plain) i ++ (codes ",\"plan\":" ++ (sym (plain_quoted hex hexed) i ++ (codes ",\"state\":" ++ (is i ++ 125 ∷ []))))) ++ 125 ∷ []) ++ 93 ∷ []))

-- ---- they are good, and what they are

texts_good : (k : ℕ) (name : List ℕ) → is_text name ≡ true → IsGood (suc k) (texts name)
texts_good k name plain = (plain_utf8 name plain, tt)

ascii : (xs : List ℕ) → is_text xs ≡ true → IsUtf8 xs
ascii xs e = plain_utf8 xs e

number_good : (n k : ℕ) → n < 2 ^ 64 → IsGood k (json.number (decimal n))
number_good n k below = (IsNumber-decimal n below, IsUtf8-from_ascii (decimal n) (IsAscii-decimal n below))

gone_good : (name : List ℕ) → is_text name ≡ true → IsGood 126 (gone_tree name)
gone_good name plain = ((ascii (codes "gone") refl, (ascii (codes "TwoPlan") refl, (ascii (codes "key") refl, (texts_good 123 name plain, tt)))), tt)

state_good : (name : List ℕ) → is_text name ≡ true → IsGood 126 (state_tree name)
state_good name plain = (
  (
    ascii (codes "is") refl,
    (
      ascii (codes "TwoPlan") refl,
      (
        ascii (codes "key") refl,
        (
          texts_good 123 name plain,
          (
            ascii (codes "property") refl,
            (
              ascii (codes "state") refl,
              (ascii (codes "values") refl, ((number_good 0 123 (omega arith), tt), tt)),
            ),
          ),
        ),
      ),
    ),
  ),
  tt,
)

group_good : (name : List ℕ) → is_text name ≡ true → IsGood 126 (group_tree name)
group_good name plain = (ascii (codes "TwoPlan") refl, (texts_good 124 name plain, tt))

put_good : (name hex : List ℕ) (n : ℕ) → is_text name ≡ true → is_text hex ≡ true → n < 2 ^ 64 → IsGood 126 (put_tree name hex n)
put_good name hex n plain hexed below = (
  (
    ascii (codes "put") refl,
    (
      ascii (codes "TwoPlan") refl,
      (
        ascii (codes "row") refl,
        ((ascii (codes "gid") refl, (plain_utf8 name plain, (ascii (codes "plan") refl, (plain_utf8 hex hexed, (ascii (codes "state") refl, (number_good n 123 below, tt)))))), tt),
      ),
    ),
  ),
  tt,
)

abbrev texts_data : List ℕ → Data
texts_data name = array (item (string name) no_items)

abbrev gone_data : List ℕ → Data
gone_data name = array (item (object (member (codes "gone") (string (codes "TwoPlan")) (member (codes "key") (texts_data name) no_members))) no_items)

abbrev state_data : List ℕ → Data
state_data name =
    array (item (object (member (codes "is") (string (codes "TwoPlan")) (member (codes "key") (texts_data name) (member (codes "property") (string (codes "state"))
    (member (codes "values") (array (item (number_data (unsigned 0)) no_items)) no_members))))) no_items)

abbrev group_data : List ℕ → Data
group_data name = array (item (string (codes "TwoPlan")) (item (texts_data name) no_items))

abbrev row_data : List ℕ → List ℕ → ℕ → Data
row_data name hex n = object (member (codes "gid") (string name) (member (codes "plan") (string hex) (member (codes "state") (number_data (unsigned n)) no_members)))

abbrev put_data : List ℕ → List ℕ → ℕ → Data
put_data name hex n = array (item (object (member (codes "put") (string (codes "TwoPlan")) (member (codes "row") (row_data name hex n) no_members))) no_items)

state_read : (name : List ℕ) → of_json (state_tree name) ≡ Some (state_data name)
state_read name =
    ap (λ o. option_map array (option_and_then (λ d. option_map (item d) (Some no_items)) (option_map object (option_and_then (λ y. Some
    (put (codes "values") y (put (codes "property") (string (codes "state")) (put (codes "key") (texts_data name) (put (codes "is") (string (codes "TwoPlan")) no_members)))))
    (option_map array (option_and_then (λ d. option_map (item d) (Some no_items)) (option_map number_data o))))))) (number_of-decimal 0 (omega arith))

put_read : (name hex : List ℕ) (n : ℕ) → n < 2 ^ 64 → of_json (put_tree name hex n) ≡ Some (put_data name hex n)
put_read name hex n below =
    ap (λ o. option_map array (option_and_then (λ d. option_map (item d) (Some no_items)) (option_map object (option_and_then (λ y. Some
    (put (codes "row") y (put (codes "put") (string (codes "TwoPlan")) no_members)))
    (option_map object (option_and_then (λ z. Some (put (codes "state") z (put (codes "plan") (string hex) (put (codes "gid") (string name) no_members)))) (option_map number_data o)))))))
    (number_of-decimal n below)

-- ---- the transactions

-- the kind of a property
abbrev kind_in : Option Property → Option Kind
kind_in None = None
kind_in (Some p) = Some p.kind

module _ (s : Schema) (ready : IsReady s) (t : PlanTable s) (name line : List ℕ) (named : is_name name ≡ true) (bytes : IsBytes line) where
  plain : is_text name ≡ true
  plain = all_plain is_letter letter_plain name (letters name named)
    where
      letters : (xs : List ℕ) → is_name xs ≡ true → list_all is_letter xs ≡ true
      letters xs e = (and_parts (nat_le 1 (length xs) && nat_le (length xs) 64) (list_all is_letter xs) e).1

  abbrev hex : List ℕ
  hex = encode_lower line

  hexed : is_text hex ≡ true
  hexed = hex_plain line bytes

  -- the row that is put
  abbrev the_row : ℕ → Row
  the_row n = record { cells = cells_in (t.table).properties (Some (row_data name hex n)) }

  -- the key values of the name
  abbrev the_key : List Value
  the_key = Str name ∷ []

  first_is : first_kind (t.table).properties (t.table).primary ≡ Some kinds.Str
  first_is = ap (first_kind (t.table).properties) (t.key).is ∙ ap kind_in (t.key).numbered_is ∙ ap Some t.key_kind

  -- ---- its cells

  key_number : (t.key).number ≡ (t.key).number - 1 + 1
  key_number = by (t.key).number (t.key).numbered_is
    where
      by : (n : ℕ) → numbered (t.table).properties n ≡ Some (t.key).property → n ≡ n - 1 + 1
      by zero e = absurd (let none : None ≡ Some (t.key).property = e in cc)
      by (suc n) e = omega arith

  key_cell : (n : ℕ) → values_of (the_row n) (t.key).number ≡ the_key
  key_cell n =
      ap (values_of (the_row n)) key_number
      ∙ cell_is (t.table).properties ((t.key).number - 1) (row_data name hex n) (t.key).property (string name) (numbered_slice (t.table).properties (t.key).number (t.key).property (t.key).numbered_is) t.key_few
      (record { there = ap (λ x. get x (row_data name hex n)) (t.key).named; no_list = refl })
      ∙ ap (λ k. value_of (Some k) (string name) ∷ []) t.key_kind

  state_cell : (n : ℕ) → value_of (Some kinds.Int32) (number_data (unsigned n)) ≡ Int32 (pos n) → cell s (plans s) (codes "state") (the_row n) ≡ number n
  state_cell n small =
      ap (λ o. values_of (the_row n) (property_number (properties_of o) (codes "state"))) t.there
      ∙ ap (values_of (the_row n)) (t.state).number_is
      ∙ cell_is (t.table).properties (t.state).index (row_data name hex n) (t.state).property (number_data (unsigned n)) (t.state).there (t.state).few
      (record { there = ap (λ x. get x (row_data name hex n)) (t.state).named; no_list = refl })
      ∙ ap (λ k. value_of (Some k) (number_data (unsigned n)) ∷ []) t.state_kind
      ∙ ap (λ v. v ∷ []) small

  line_cell : (n : ℕ) → cell s (plans s) (codes "plan") (the_row n) ≡ Raw line ∷ []
  line_cell n =
      ap (λ o. values_of (the_row n) (property_number (properties_of o) (codes "plan"))) t.there
      ∙ ap (values_of (the_row n)) (t.line).number_is
      ∙ cell_is (t.table).properties (t.line).index (row_data name hex n) (t.line).property (string hex) (t.line).there (t.line).few
      (record { there = ap (λ x. get x (row_data name hex n)) (t.line).named; no_list = refl })
      ∙ ap (λ k. value_of (Some k) (string hex) ∷ []) t.line_kind
      ∙ ap (λ b. (if b then Raw (bytes_of hex) else Str hex) ∷ []) (hex_is line bytes)
      ∙ ap (λ b. Raw b ∷ []) (hex_back line bytes)

  -- ---- its key

  kinds_one : (shape_of s (plans s) t.table).root_kinds ≡ (t.key).property.kind ∷ []
  kinds_one =
      ap (λ n. root_kinds (table_at s.tables n)) t.own ∙ ap root_kinds t.there ∙ ap (kinds_of (t.table).properties) (t.key).is
      ∙ ap (λ o. option_to_list (kind_in o) ++ []) (t.key).numbered_is

  root_is : root_part (shape_of s (plans s) t.table) the_key ≡ the_key
  root_is = ap (λ (ks : List Kind). take (length ks) the_key) kinds_one

  rest_is : rest_part (shape_of s (plans s) t.table) the_key ≡ []
  rest_is = ap (λ (ks : List Kind). drop (length ks) the_key) kinds_one

  record Placed (group : List ℕ) (n : ℕ) : Type 0 where
    group_as : group ≡ plan_group s name
    key_as : key_in s group 0 (plans s) the_key ≡ Ok (plan_place s name)
    put_as : write_of s group (Put (plans s) (the_row n)) ≡ Some (record { key = plan_place s name; row = Some (the_row n) })

  placed : (group : List ℕ) (checks : List Check) (n : ℕ) → transaction_fits s (asking group checks (Put (plans s) (the_row n) ∷ [])) ≡ true → Placed group n
  placed group checks n fits = by (write_of s group (Put (plans s) (the_row n))) refl all.are
    where
      all : Fit s group (Put (plans s) (the_row n) ∷ [])
      all = fit s group checks (Put (plans s) (the_row n) ∷ []) fits

      keyed : (w : Write) → write_of s group (Put (plans s) (the_row n)) ≡ Some w → key_in s group 0 (plans s) the_key ≡ Ok w.key
      keyed w is =
          ap (λ vs. key_in s group 0 (plans s) vs) (sym (ap (λ (p : List ℕ). key_values p (the_row n)) (t.key).is ∙ ap (λ vs. leading vs []) (key_cell n)))
          ∙ (put_keyed s group (plans s) (the_row n) t.table w t.there is).0

      at_write : (w : Write) → write_of s group (Put (plans s) (the_row n)) ≡ Some w → Placed group n
      at_write w is =
          let k = names_key s group 0 (plans s) the_key w.key (keyed w is) in
          let table : k.table ≡ t.table = (let one : Some k.table ≡ Some t.table = sym k.at ∙ t.there in cc) in
          let group_as : group ≡ plan_group s name =
          group_is s (plans s) k.table the_key group k.of_group ∙ ap (λ u. group_bytes (shape_of s (plans s) u) (root_part (shape_of s (plans s) u) the_key)) table
          ∙ ap (group_bytes (shape_of s (plans s) t.table)) root_is ∙ ap (λ o. group_in s (plans s) o name) (sym t.there) in
          let key_is : w.key ≡ plan_place s name =
          k.is ∙ ap (λ u. place s (plans s) group (spell_all (rest_part (shape_of s (plans s) u) the_key))) table
          ∙ ap (λ vs. place s (plans s) group (spell_all vs)) rest_is ∙ ap (λ g. place s (plans s) g []) group_as in
          record {
            group_as = group_as;
            key_as = keyed w is ∙ ap Ok key_is;
            put_as = is ∙ ap Some (put_keyed s group (plans s) (the_row n) t.table w t.there is).1 ∙ ap (λ (k : List ℕ). Some (record { key = k; row = Some (the_row n) })) key_is;
          }

      by : (o : Option Write) → write_of s group (Put (plans s) (the_row n)) ≡ o → with_write o (Some []) ≡ Some all.writes → Placed group n
      by None is e = absurd (cc)
      by (Some w) is e = at_write w is

  puts : (group : List ℕ) (n : ℕ) (state : State) → Placed group n → value_of (Some kinds.Int32) (number_data (unsigned n)) ≡ Int32 (pos n) → state_in (number n) ≡ state → PutsPlan s name line state the_key (the_row n)
  puts group n state p small state_is = record {
    tables = record { table = t.table; there = t.there; bare = ready.plans_bare };
    key_is = ap (λ g. result_ok (key_in s g 0 (plans s) the_key)) (sym p.group_as) ∙ ap result_ok p.key_as;
    put_is = ap (λ g. write_of s g (Put (plans s) (the_row n))) (sym p.group_as) ∙ p.put_as;
    state_is = ap state_in (state_cell n small) ∙ state_is;
    line_is = line_cell n;
  }

  -- ---- the transactions that are read

  abbrev group_read : List ℕ
  group_read = (group_of s (Some (group_data name))).key

  key_read : values_at (properties_of (numbered s.tables (plans s))) (primary_of (numbered s.tables (plans s))) (item (string name) no_items) ≡ the_key
  key_read = ap (λ o. value_of (first_kind (properties_of o) (primary_of o)) (string name) ∷ []) t.there ∙ ap (λ o. value_of o (string name) ∷ []) first_is

  abbrev with_table : ℕ → Option Table → Row
  with_table n o = record { cells = cells_in (properties_of o) (Some (row_data name hex n)) }

  zero_is : codes "0" ≡ decimal 0
  unfolding digits
  zero_is = refl

  planning_read : transaction_of s (planning_text name line) ≡ asking group_read (Gone (row (plans s) the_key) ∷ []) (Put (plans s) (the_row 0) ∷ [])
  unfolding planning_text plan_put
  planning_read =
      ap (transaction_of s) (λ i. transaction_text (gone_text name plain i) (group_text name plain i) (put_text name hex 0 (codes "0") plain hexed zero_is i))
      ∙ read_as s (gone_tree name) (group_tree name) (put_tree name hex 0) (gone_data name) (group_data name) (put_data name hex 0) (gone_good name plain) (group_good name plain)
      (put_good name hex 0 plain hexed (omega arith)) refl refl (put_read name hex 0 (omega arith))
      (record { group = refl; checks = refl; writes = refl; no_floats_c = refl; no_floats_g = refl; no_floats_w = refl })
      ∙ (λ i. asking group_read (Gone (row (plans s) (key_read i)) ∷ []) (Put (plans s) (with_table 0 (t.there i)) ∷ []))

  pub is_planning : TextFits s (planning_text name line) → IsPlanning s name line (transaction_of s (planning_text name line))
  is_planning fits =
      let p = placed group_read (Gone (row (plans s) the_key) ∷ []) 0 (ap (transaction_fits s) (sym planning_read) ∙ fits) in
      record {
        values = the_key;
        put = the_row 0;
        is = planning_read ∙ ap (λ g. asking g (Gone (row (plans s) the_key) ∷ []) (Put (plans s) (the_row 0) ∷ [])) p.group_as;
        puts = puts group_read 0 Undecided p refl refl;
        fits = fits;
      }

  -- as made or dropped
  abbrev state_number : Bool → ℕ
  state_number true = 1
  state_number false = 2

  digit_is : (made : Bool) → state_digit made ≡ decimal (state_number made)
  unfolding digits
  digit_is true = refl
  digit_is false = refl

  few : (made : Bool) → state_number made < 2 ^ 64
  few true = omega arith
  few false = omega arith

  fine : (made : Bool) → AreFine (state_data name) (group_data name) (put_data name hex (state_number made))
  fine true = record { group = refl; checks = refl; writes = refl; no_floats_c = refl; no_floats_g = refl; no_floats_w = refl }
  fine false = record { group = refl; checks = refl; writes = refl; no_floats_c = refl; no_floats_g = refl; no_floats_w = refl }

  small : (made : Bool) → value_of (Some kinds.Int32) (number_data (unsigned (state_number made))) ≡ Int32 (pos (state_number made))
  small true = refl
  small false = refl

  state_as : (made : Bool) → state_in (number (state_number made)) ≡ state_of made
  state_as true = refl
  state_as false = refl

  abbrev state_check : Check
  state_check = Is (row (plans s) the_key) (number_in s (plans s) (codes "state")) (number 0)

  state_kind : kind_at (properties_of (numbered s.tables (plans s))) (number_in s (plans s) (codes "state")) ≡ Some kinds.Int32
  state_kind =
      ap (λ o. kind_in (numbered (properties_of o) (property_number (properties_of o) (codes "state")))) t.there ∙ ap kind_in (t.state).numbered_is ∙ ap Some t.state_kind

  deciding_read : (made : Bool) → transaction_of s (deciding_text made name line) ≡ asking group_read (state_check ∷ []) (Put (plans s) (the_row (state_number made)) ∷ [])
  unfolding deciding_text plan_put
  deciding_read made =
      ap (transaction_of s) (λ i. transaction_text (state_text name plain i) (group_text name plain i) (put_text name hex (state_number made) (state_digit made) plain hexed (digit_is made) i))
      ∙ read_as s (state_tree name) (group_tree name) (put_tree name hex (state_number made)) (state_data name) (group_data name) (put_data name hex (state_number made)) (state_good name plain) (group_good name plain)
      (put_good name hex (state_number made) plain hexed (few made)) (state_read name) refl (put_read name hex (state_number made) (few made)) (fine made)
      ∙ (λ i. asking group_read (Is (row (plans s) (key_read i)) (number_in s (plans s) (codes "state")) (value_of (state_kind i) (number_data (unsigned 0)) ∷ []) ∷ [])
      (Put (plans s) (with_table (state_number made) (t.there i)) ∷ []))

  may : may_be_in (numbered s.tables (plans s)) (number_in s (plans s) (codes "state")) (number 0) ≡ true
  may =
      ap (λ o. may_be_in o (property_number (properties_of o) (codes "state")) (number 0)) t.there ∙ ap (λ o. may_be o (number 0)) (t.state).numbered_is
      ∙ (λ i. one_may ((t.state).property).need i && (has_kind (t.state_kind i) (Int32 (pos 0)) && true))
    where
      one_may : (need : Need) → may_have need 1 ≡ true
      one_may Required = refl
      one_may Optional = refl
      one_may Repeated = refl

  pub is_deciding : (made : Bool) → TextFits s (deciding_text made name line) → IsDeciding s name line made (transaction_of s (deciding_text made name line))
  is_deciding made fits =
      let p = placed group_read (state_check ∷ []) (state_number made) (ap (transaction_fits s) (sym (deciding_read made)) ∙ fits) in
      record {
        values = the_key;
        put = the_row (state_number made);
        is = deciding_read made ∙ ap (λ g. asking g (state_check ∷ []) (Put (plans s) (the_row (state_number made)) ∷ [])) p.group_as;
        puts = puts group_read (state_number made) (state_of made) p (small made) (state_as made);
        may_be = may;
        fits = fits;
      }
