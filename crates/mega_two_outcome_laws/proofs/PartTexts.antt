-- The texts of a part's requests, as trees: what they are, and what is read of them.
use Rattle.std.proofs.Common.{◌≡◌, ℕ, suc, ◌≤◌, ◌||◌, Bool, true, false, List, [], ◌∷◌, ◌++◌, refl, sym, ap, ◌∙◌, arith, append_assoc, Some, IsUtf8}
use Rattle.std.specs.Prelude.{codes, option_map, option_and_then}
use Rattle.json.specs.Json as json
use Rattle.json.specs.Print.{escape_byte, quoted as json_quoted}
use Rattle.serde_json.specs.Data.{Data, boolean, string, array, object, Items, no_items, item, Members, no_members, member, put}
use Rattle.serde_json.specs.Read.{of_json, of_members}
use Rattle.serde_json.specs.Written.{outline, has_float}
use Rattle.mega_schema.specs.declared.schema.Property.{Property}
use Rattle.mega_schedule.specs.declared.verdict.Verdict.TheVariants.{Fine}
use Rattle.mega_schedule.specs.Verdicts.{◌⊓◌}
use Rattle.mega_schedule.specs.Fields.{worst, value_check}
use Rattle.mega_schedule.specs.Parts.{check_check, write_check}
use Rattle.mega_two_driver.specs.Texts.{quoted, bracketed, members_text as key_text, holder_check, truth_text}
use Rattle.mega_two_driver.specs.Tables.{properties_at}
use Rattle.mega_two_outcome_laws.proofs.Trees.{text_of, members_text, IsGood, HasGood}
use Rattle.mega_two_outcome_laws.proofs.Letters.{is_text, plain_quoted, plain_utf8}
use Rattle.mega_two_outcome_laws.proofs.Held.{IsHeld, AreHeld, held_good, held_again}
use Rattle.mega_two_outcome_laws.proofs.Members.{keyed, put_keys, are_valid, are_plain, keyed_text, keyed_read, keyed_good, AreCells, cells_put, cells_fine, cells_plain, cells_keys}

pub are_higher : (n m : ℕ) (ds : Items) → n ≤ m → AreHeld n ds → AreHeld m ds
are_higher n m ds below h = record { whole = h.whole; deep = omega (arith, below, h.deep); plain = h.plain }

ascii : (xs : List ℕ) → is_text xs ≡ true → IsUtf8 xs
ascii xs e = plain_utf8 xs e

-- ---- the trees

abbrev pub texts : List ℕ → json.Json
texts name = json.array (json.item (json.string name) json.no_items)

-- under this word the name of a table, and a key
abbrev pub gone_tree : List ℕ → json.Json → json.Json
gone_tree table key = json.object (json.member (codes "gone") (json.string table) (json.member (codes "key") key json.no_members))

abbrev pub delete_tree : List ℕ → json.Json → json.Json
delete_tree table key = json.object (json.member (codes "delete") (json.string table) (json.member (codes "key") key json.no_members))

abbrev pub held_tree : List ℕ → json.Json → List ℕ → json.Json
held_tree table key name =
    json.object (json.member (codes "is") (json.string table) (json.member (codes "key") key (json.member (codes "property") (json.string (codes "gid")) (json.member (codes "values") (texts name) json.no_members))))

abbrev pub put_tree : List ℕ → json.Members → json.Json
put_tree table row = json.object (json.member (codes "put") (json.string table) (json.member (codes "row") (json.object row) json.no_members))

abbrev pub name_member : List ℕ → json.Members
name_member name = json.member (codes "gid") (json.string name) json.no_members

abbrev pub end_members : Bool → List ℕ → json.Members
end_members made name = json.member (codes "commit") (json.boolean made) (name_member name)

-- ---- their texts

shift : (a b c d e y z : List ℕ) → a ++ (b ++ (c ++ (d ++ (e ++ (y ++ z))))) ≡ (a ++ (b ++ (c ++ (d ++ (e ++ y))))) ++ z
shift a b c d e y z = simp append_assoc

shift_three : (a b c y z : List ℕ) → a ++ (b ++ (c ++ (y ++ z))) ≡ (a ++ (b ++ (c ++ y))) ++ z
shift_three a b c y z = simp append_assoc

pub held_text : (table name key : List ℕ) (tree : json.Json) → is_text table ≡ true → is_text name ≡ true → key ≡ text_of tree
    → holder_check (quoted table) key (bracketed (quoted name)) ≡ text_of (json.array (json.item (held_tree table tree name) json.no_items))
unfolding holder_check escape_byte
held_text table name key tree plain named is =
    (λ i. codes "[{\"is\":" ++ (sym (plain_quoted table plain) i ++ (codes ",\"key\":" ++ (is i ++ (codes ",\"property\":\"gid\",\"values\":" ++ ((91 ∷ (sym (plain_quoted name named) i ++ 93 ∷ [])) ++ codes "}]"))))))
    ∙ ap (λ x. codes "[{\"is\":" ++ x) (shift (json_quoted table) (codes ",\"key\":") (text_of tree) (codes ",\"property\":\"gid\",\"values\":") (91 ∷ (json_quoted name ++ 93 ∷ [])) (125 ∷ []) (93 ∷ []))

pub delete_text : (table key : List ℕ) (tree : json.Json) → is_text table ≡ true → key ≡ text_of tree
    → codes "{\"delete\":" ++ (quoted table ++ (codes ",\"key\":" ++ (key ++ codes "},"))) ≡ text_of (delete_tree table tree) ++ 44 ∷ []
unfolding escape_byte
delete_text table key tree plain is =
    (λ i. codes "{\"delete\":" ++ (sym (plain_quoted table plain) i ++ (codes ",\"key\":" ++ (is i ++ codes "},"))))
    ∙ ap (λ x. codes "{\"delete\":" ++ x) (shift_three (json_quoted table) (codes ",\"key\":") (text_of tree) (125 ∷ []) (44 ∷ []))

pub free_text : (locks ends key : List ℕ) (tree other : json.Json) → is_text locks ≡ true → is_text ends ≡ true → key ≡ text_of tree
    → codes "{\"gone\":" ++ (quoted locks ++ (codes ",\"key\":" ++ (key ++ (codes "},{\"gone\":" ++ (quoted ends ++ (codes ",\"key\":" ++ (text_of other ++ codes "}")))))))
    ≡ text_of (gone_tree locks tree) ++ 44 ∷ text_of (gone_tree ends other)
unfolding escape_byte
free_text locks ends key tree other plain_locks plain_ends is =
    (λ i. codes "{\"gone\":" ++ (sym (plain_quoted locks plain_locks) i ++ (codes ",\"key\":" ++ (is i ++ (codes "},{\"gone\":" ++ (sym (plain_quoted ends plain_ends) i ++ (codes ",\"key\":" ++ (text_of other ++ codes "}"))))))))
    ∙ ap (λ x. codes "{\"gone\":" ++ x) (shift_three (json_quoted locks) (codes ",\"key\":") (text_of tree) (125 ∷ []) (44 ∷ text_of (gone_tree ends other)))

truth_said : (made : Bool) → truth_text made ≡ text_of (json.boolean made)
truth_said true = refl
truth_said false = refl

pub end_text : (n : ℕ) (ps : List Property) (ns : List ℕ) (ds : Items) (table name : List ℕ) (made : Bool) → is_text table ≡ true → is_text name ≡ true → are_valid ps ns ≡ true → are_plain (properties_at ps ns) ≡ true → AreHeld n ds
    → codes "{\"put\":" ++ (quoted table ++ (codes ",\"row\":{" ++ (key_text ps ns ds ++ (codes "\"commit\":" ++ (truth_text made ++ (codes ",\"gid\":" ++ (quoted name ++ codes "}}")))))))
    ≡ text_of (put_tree table (keyed ds (properties_at ps ns) (end_members made name)))
unfolding escape_byte
end_text n ps ns ds table name made plain named valid keys h =
    (λ i. codes "{\"put\":" ++ (sym (plain_quoted table plain) i ++ (codes ",\"row\":{" ++ (key_text ps ns ds ++ (codes "\"commit\":" ++ (truth_said made i ++ (codes ",\"gid\":" ++ (sym (plain_quoted name named) i ++ codes "}}"))))))))
    ∙ ap (λ x. codes "{\"put\":" ++ (json_quoted table ++ (codes ",\"row\":{" ++ x))) (shift (key_text ps ns ds) (codes "\"commit\":") (text_of (json.boolean made)) (codes ",\"gid\":") (json_quoted name) (125 ∷ []) (125 ∷ []))
    ∙ ap (λ x. codes "{\"put\":" ++ (json_quoted table ++ (codes ",\"row\":{" ++ (x ++ 125 ∷ [])))) (keyed_text n ps ns ds (codes "commit") (json.boolean made) (name_member name) valid keys h)

pub lock_text : (n : ℕ) (ps : List Property) (ns : List ℕ) (ds : Items) (table name : List ℕ) → is_text table ≡ true → is_text name ≡ true → are_valid ps ns ≡ true → are_plain (properties_at ps ns) ≡ true → AreHeld n ds
    → codes "[{\"put\":" ++ (quoted table ++ (codes ",\"row\":{" ++ (key_text ps ns ds ++ (codes "\"gid\":" ++ (quoted name ++ codes "}}]")))))
    ≡ text_of (json.array (json.item (put_tree table (keyed ds (properties_at ps ns) (name_member name))) json.no_items))
unfolding escape_byte
lock_text n ps ns ds table name plain named valid keys h =
    (λ i. codes "[{\"put\":" ++ (sym (plain_quoted table plain) i ++ (codes ",\"row\":{" ++ (key_text ps ns ds ++ (codes "\"gid\":" ++ (sym (plain_quoted name named) i ++ codes "}}]"))))))
    ∙ ap (λ x. codes "[{\"put\":" ++ (json_quoted table ++ (codes ",\"row\":{" ++ x))) (shift_three (key_text ps ns ds) (codes "\"gid\":") (json_quoted name) (125 ∷ []) (125 ∷ 93 ∷ []))
    ∙ ap (λ x. codes "[{\"put\":" ++ (json_quoted table ++ (codes ",\"row\":{" ++ (x ++ 125 ∷ 93 ∷ [])))) (keyed_text n ps ns ds (codes "gid") (json.string name) json.no_members valid keys h)
    ∙ ap (λ x. codes "[{\"put\":" ++ x) (shift_three (json_quoted table) (codes ",\"row\":{") (members_text false (keyed ds (properties_at ps ns) (name_member name))) (125 ∷ []) (93 ∷ []))

-- ---- they are good

pub held_tree_good : (table name : List ℕ) (n : ℕ) (key : Data) → is_text table ≡ true → is_text name ≡ true → IsHeld (suc n) key → IsGood (suc (suc n)) (held_tree table (outline key) name)
held_tree_good table name n key plain named h =
    (ascii (codes "is") refl, (ascii table plain, (ascii (codes "key") refl, (held_good (suc n) key h, (ascii (codes "property") refl, (ascii (codes "gid") refl, (ascii (codes "values") refl, ((ascii name named, tt), tt))))))))

pub gone_good : (table : List ℕ) (n : ℕ) (key : json.Json) → is_text table ≡ true → IsGood n key → IsGood (suc n) (gone_tree table key)
gone_good table n key plain h = (ascii (codes "gone") refl, (ascii table plain, (ascii (codes "key") refl, (h, tt))))

pub delete_good : (table : List ℕ) (n : ℕ) (key : Data) → is_text table ≡ true → IsHeld n key → IsGood (suc n) (delete_tree table (outline key))
delete_good table n key plain h = (ascii (codes "delete") refl, (ascii table plain, (ascii (codes "key") refl, (held_good n key h, tt))))

pub put_good : (table : List ℕ) (n : ℕ) (row : json.Members) → is_text table ≡ true → HasGood n row → IsGood (suc (suc n)) (put_tree table row)
put_good table n row plain g = (ascii (codes "put") refl, (ascii table plain, (ascii (codes "row") refl, (g, tt))))

pub lock_row_good : (n : ℕ) (ds : Items) (ws : List Property) (name : List ℕ) → are_plain ws ≡ true → is_text name ≡ true → AreHeld n ds → HasGood n (keyed ds ws (name_member name))
lock_row_good n ds ws name plain named h = keyed_good n ds ws (name_member name) plain h (ascii (codes "gid") refl, (ascii name named, tt))

pub end_row_good : (n : ℕ) (ds : Items) (ws : List Property) (made : Bool) (name : List ℕ) → are_plain ws ≡ true → is_text name ≡ true → AreHeld n ds → HasGood n (keyed ds ws (end_members made name))
end_row_good n ds ws made name plain named h = keyed_good n ds ws (end_members made name) plain h (ascii (codes "commit") refl, (tt, (ascii (codes "gid") refl, (ascii name named, tt))))

-- ---- what is read

abbrev pub texts_data : List ℕ → Data
texts_data name = array (item (string name) no_items)

abbrev pub held_data : List ℕ → Data → List ℕ → Data
held_data table key name =
    object (member (codes "is") (string table) (member (codes "key") key (member (codes "property") (string (codes "gid")) (member (codes "values") (texts_data name) no_members))))

abbrev pub gone_data : List ℕ → Data → Data
gone_data table key = object (member (codes "gone") (string table) (member (codes "key") key no_members))

abbrev pub delete_data : List ℕ → Data → Data
delete_data table key = object (member (codes "delete") (string table) (member (codes "key") key no_members))

abbrev pub put_data : List ℕ → Members → Data
put_data table row = object (member (codes "put") (string table) (member (codes "row") (object row) no_members))

abbrev pub lock_row : Items → List Property → List ℕ → Members
lock_row ds ws name = put (codes "gid") (string name) (put_keys ds ws no_members)

abbrev pub end_row : Items → List Property → Bool → List ℕ → Members
end_row ds ws made name = put (codes "gid") (string name) (put (codes "commit") (boolean made) (put_keys ds ws no_members))

pub held_read : (n : ℕ) (table name : List ℕ) (key : Data) → IsHeld n key → of_json (held_tree table (outline key) name) ≡ Some (held_data table key name)
held_read n table name key h =
    ap (λ o. option_map object (option_and_then (λ y. Some (put (codes "values") (texts_data name) (put (codes "property") (string (codes "gid")) (put (codes "key") y (put (codes "is") (string table) no_members))))) o)) (held_again n key h)

pub gone_read : (table : List ℕ) (tree : json.Json) (key : Data) → of_json tree ≡ Some key → of_json (gone_tree table tree) ≡ Some (gone_data table key)
gone_read table tree key e = ap (λ o. option_map object (option_and_then (λ y. Some (put (codes "key") y (put (codes "gone") (string table) no_members))) o)) e

pub delete_read : (n : ℕ) (table : List ℕ) (key : Data) → IsHeld n key → of_json (delete_tree table (outline key)) ≡ Some (delete_data table key)
delete_read n table key h = ap (λ o. option_map object (option_and_then (λ y. Some (put (codes "key") y (put (codes "delete") (string table) no_members))) o)) (held_again n key h)

put_read : (table : List ℕ) (row : json.Members) (ms : Members) → of_members row no_members ≡ Some ms → of_json (put_tree table row) ≡ Some (put_data table ms)
put_read table row ms e = ap (λ o. option_map object (option_and_then (λ y. Some (put (codes "row") y (put (codes "put") (string table) no_members))) (option_map object o))) e

pub lock_read : (n : ℕ) (ds : Items) (ws : List Property) (table name : List ℕ) → AreHeld n ds → of_json (put_tree table (keyed ds ws (name_member name))) ≡ Some (put_data table (lock_row ds ws name))
lock_read n ds ws table name h = put_read table (keyed ds ws (name_member name)) (lock_row ds ws name) (keyed_read n ds ws (name_member name) no_members h)

pub end_read : (n : ℕ) (ds : Items) (ws : List Property) (table : List ℕ) (made : Bool) (name : List ℕ) → AreHeld n ds → of_json (put_tree table (keyed ds ws (end_members made name))) ≡ Some (put_data table (end_row ds ws made name))
end_read n ds ws table made name h = put_read table (keyed ds ws (end_members made name)) (end_row ds ws made name) (keyed_read n ds ws (end_members made name) no_members h)

-- ---- it is fine

pub lock_cells : (n : ℕ) (ds : Items) (ws : List Property) (name : List ℕ) → AreHeld n ds → worst value_check Fine ds ≡ Fine → AreCells (lock_row ds ws name)
lock_cells n ds ws name h fine = cells_put (codes "gid") (string name) (put_keys ds ws no_members) (refl, refl) (cells_keys n ds ws no_members h fine tt)

pub end_cells : (n : ℕ) (ds : Items) (ws : List Property) (made : Bool) (name : List ℕ) → AreHeld n ds → worst value_check Fine ds ≡ Fine → AreCells (end_row ds ws made name)
end_cells n ds ws made name h fine =
    cells_put (codes "gid") (string name) (put (codes "commit") (boolean made) (put_keys ds ws no_members)) (refl, refl)
    (cells_put (codes "commit") (boolean made) (put_keys ds ws no_members) (refl, refl) (cells_keys n ds ws no_members h fine tt))

pub held_fine : (table name : List ℕ) (ds : Items) → worst value_check Fine ds ≡ Fine → check_check (held_data table (array ds) name) ≡ Fine
held_fine table name ds fine = λ i. ((Fine ⊓ fine i) ⊓ Fine) ⊓ Fine

pub gone_fine : (table : List ℕ) (ds : Items) → worst value_check Fine ds ≡ Fine → check_check (gone_data table (array ds)) ≡ Fine
gone_fine table ds fine = λ i. Fine ⊓ fine i

pub delete_fine : (table : List ℕ) (ds : Items) → worst value_check Fine ds ≡ Fine → write_check (delete_data table (array ds)) ≡ Fine
delete_fine table ds fine = λ i. Fine ⊓ fine i

pub put_fine : (table : List ℕ) (ms : Members) → AreCells ms → write_check (put_data table ms) ≡ Fine
put_fine table ms all = λ i. Fine ⊓ cells_fine ms all i

pub held_plain : (table name : List ℕ) (key : Data) → has_float key ≡ false → has_float (held_data table key name) ≡ false
held_plain table name key e = λ i. e i || false

pub gone_plain : (table : List ℕ) (key : Data) → has_float key ≡ false → has_float (gone_data table key) ≡ false
gone_plain table key e = λ i. e i || false

pub delete_plain : (table : List ℕ) (key : Data) → has_float key ≡ false → has_float (delete_data table key) ≡ false
delete_plain table key e = λ i. e i || false

pub put_plain : (table : List ℕ) (ms : Members) → AreCells ms → has_float (put_data table ms) ≡ false
put_plain table ms all = λ i. cells_plain ms all i || false
