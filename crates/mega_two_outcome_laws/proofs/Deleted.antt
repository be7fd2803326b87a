-- The checks that each row is there which the writes of a part delete: their text, and what is read of it.
use Rattle.std.proofs.Common.{◌≡◌, ℕ, suc, ℤ, ◌||◌, cond, Bool, true, false, List, [], ◌∷◌, ◌++◌, refl, ap, ◌∙◌, append_assoc, Option, Some, None, IsUtf8}
use Rattle.std.specs.Prelude.{codes, is_some, if◌then◌else◌, option_map, option_and_then}
use Rattle.json.specs.Json as json
use Rattle.json.specs.Print.{escape_byte}
use Rattle.serde_json.specs.Data.{Data, object, Items, no_items, item, no_members, member, put}
use Rattle.serde_json.specs.Find.{get, as_object}
use Rattle.serde_json.specs.Read.{of_json, of_items}
use Rattle.serde_json.specs.Written.{outline, items_have_float}
use Rattle.mega_base.specs.declared.values.Row.{Row}
use Rattle.mega_schema.specs.declared.schema.Schema.{Schema}
use Rattle.mega_outcome.specs.declared.transaction.RowRef.{RowRef}
use Rattle.mega_outcome.specs.declared.transaction.Change.{Change}
use Rattle.mega_outcome.specs.declared.transaction.Change.TheVariants.{Put, Delete, Add}
use Rattle.mega_schedule.specs.declared.verdict.Verdict.TheVariants.{Missing, WrongKind, Fine}
use Rattle.mega_schedule.specs.Verdicts.{◌⊓◌}
use Rattle.mega_schedule.specs.Fields.{at_most, required, text_check, values_check, worst}
use Rattle.mega_schedule.specs.Parts.{check_check, write_check, put_check, add_check, write_fields}
use Rattle.mega_schedule.specs.Values.{list_in, key_in as values_in, whole_in}
use Rattle.mega_schedule.specs.Rows.{each_in, table_in, named_in, row_of, property_in, put_row, check_of, write_of as change_of}
use Rattle.mega_two_driver.specs.Texts.{field_text, deleted_text, deleted_texts}
use Rattle.mega_two_outcome_laws.specs.Changes.{deleted}
use Rattle.mega_two_outcome_laws.proofs.Trees.{items_text, AreGood}
use Rattle.mega_two_outcome_laws.proofs.Letters.{is_text, plain_utf8}
use Rattle.mega_schedule.proofs.BothFine.{both_fine}
use Rattle.mega_two_outcome_laws.proofs.Held.{IsHeld, AreHeld, held_good, held_again, held_get, held_first, held_behind, value_said}
use Rattle.mega_two_outcome_laws.proofs.Joined.{worst_item, worst_behind, worst_next}

abbrev there_tree : Data × Data → json.Json
there_tree p = json.object (json.member (codes "key") (outline p.0) (json.member (codes "there") (outline p.1) json.no_members))

abbrev there_data : Data × Data → Data
there_data p = object (member (codes "key") p.0 (member (codes "there") p.1 no_members))

-- the key and the table that a write deletes, by what it has of a put, of a deletion, and of a key
abbrev pick : Option Data → Option Data → Option Data → Option (Data × Data)
pick (Some x) d k = None
pick None None k = None
pick None (Some d) None = None
pick None (Some d) (Some k) = Some (k, d)

abbrev trees_with : Option (Data × Data) → json.Items → json.Items
trees_with None js = js
trees_with (Some p) js = json.item (there_tree p) js

abbrev items_with : Option (Data × Data) → Items → Items
items_with None ds = ds
items_with (Some p) ds = item (there_data p) ds

abbrev of_write : Data → Option (Data × Data)
of_write w = pick (get (codes "put") w) (get (codes "delete") w) (get (codes "key") w)

abbrev pub deleted_trees : Items → json.Items
deleted_trees no_items = json.no_items
deleted_trees (item w ws) = trees_with (of_write w) (deleted_trees ws)

abbrev pub deleted_items : Items → Items
deleted_items no_items = no_items
deleted_items (item w ws) = items_with (of_write w) (deleted_items ws)

-- ---- one of them

abbrev IsThere : ℕ → Option Data → Option Data → Option Data → Type 0
IsThere n (Some x) d k = Unit {0}
IsThere n None None k = Unit {0}
IsThere n None (Some d) None = ⊥
IsThere n None (Some d) (Some k) = (IsHeld n k × IsHeld n d) × ((text_check d ≡ Fine) × (values_check k ≡ Fine))

is_there : (n : ℕ) (w : Data) → IsHeld (suc n) w → write_check w ≡ Fine → IsThere n (get (codes "put") w) (get (codes "delete") w) (get (codes "key") w)
is_there n w h fine = first (is_some (as_object w)) fine
  where
    second : (o d k : Option Data) → get (codes "put") w ≡ o → get (codes "delete") w ≡ d → get (codes "key") w ≡ k
        → cond (is_some o) (put_check w) (cond (is_some d) ((at_most 2 w ⊓ required text_check d) ⊓ required values_check k) (cond (is_some (get (codes "add") w)) (add_check w) Missing)) ≡ Fine → IsThere n o d k
    second (Some x) d k o_is d_is k_is e = tt
    second None None k o_is d_is k_is e = tt
    second None (Some d) None o_is d_is k_is e = absurd (let none : Missing ≡ Fine = (both_fine (at_most 2 w ⊓ text_check d) Missing e).second in cc)
    second None (Some d) (Some k) o_is d_is k_is e =
        let p = both_fine (at_most 2 w ⊓ text_check d) (values_check k) e in
        ((held_get n (codes "key") w k h k_is, held_get n (codes "delete") w d h d_is), ((both_fine (at_most 2 w) (text_check d) p.first).second, p.second))

    first : (b : Bool) → cond b (write_fields w) WrongKind ≡ Fine → IsThere n (get (codes "put") w) (get (codes "delete") w) (get (codes "key") w)
    first true e = second (get (codes "put") w) (get (codes "delete") w) (get (codes "key") w) refl refl refl e
    first false e = absurd (cc)

abbrev text_by : Option Data → Option Data → Option Data → List ℕ
text_by o d k =
    if is_some o then [] else (if is_some d then codes ",{\"key\":" ++ (field_text k ++ (codes ",\"there\":" ++ (field_text d ++ codes "}"))) else [])

one_text : (n : ℕ) (o d k : Option Data) (js : json.Items) → IsThere n o d k → text_by o d k ++ items_text true js ≡ items_text true (trees_with (pick o d k) js)
unfolding escape_byte
one_text n (Some x) d k js t = refl
one_text n None None k js t = refl
one_text n None (Some d) None js t = absurd t
one_text n None (Some d) (Some k) js t =
    λ i. (codes ",{\"key\":" ++ (value_said n k (t.0).0 i ++ (codes ",\"there\":" ++ (value_said n d (t.0).1 i ++ codes "}")))) ++ items_text true js

ascii : (xs : List ℕ) → is_text xs ≡ true → IsUtf8 xs
ascii xs e = plain_utf8 xs e

one_good : (n : ℕ) (o d k : Option Data) (js : json.Items) → IsThere n o d k → AreGood (suc n) js → AreGood (suc n) (trees_with (pick o d k) js)
one_good n (Some x) d k js t g = g
one_good n None None k js t g = g
one_good n None (Some d) None js t g = absurd t
one_good n None (Some d) (Some k) js t g = ((ascii (codes "key") refl, (held_good n k (t.0).0, (ascii (codes "there") refl, (held_good n d (t.0).1, tt)))), g)

there_read : (n : ℕ) (k d : Data) → IsHeld n k → IsHeld n d → of_json (there_tree (k, d)) ≡ Some (there_data (k, d))
there_read n k d key table =
    ap (λ o. option_map object (option_and_then (λ x. option_and_then (λ y. Some (put (codes "there") y (put (codes "key") x no_members))) (of_json (outline d))) o)) (held_again n k key)
    ∙ ap (λ o. option_map object (option_and_then (λ y. Some (put (codes "there") y (put (codes "key") k no_members))) o)) (held_again n d table)

one_read : (n : ℕ) (o d k : Option Data) (js : json.Items) (ds : Items) → IsThere n o d k → of_items js ≡ Some ds → of_items (trees_with (pick o d k) js) ≡ Some (items_with (pick o d k) ds)
one_read n (Some x) d k js ds t e = e
one_read n None None k js ds t e = e
one_read n None (Some d) None js ds t e = absurd t
one_read n None (Some d) (Some k) js ds t e =
    ap (option_and_then (λ x. option_map (item x) (of_items js))) (there_read n k d (t.0).0 (t.0).1) ∙ ap (option_map (item (there_data (k, d)))) e

one_fine : (n : ℕ) (o d k : Option Data) (ds : Items) → IsThere n o d k → worst check_check Fine ds ≡ Fine → worst check_check Fine (items_with (pick o d k) ds) ≡ Fine
one_fine n (Some x) d k ds t e = e
one_fine n None None k ds t e = e
one_fine n None (Some d) None ds t e = absurd t
one_fine n None (Some d) (Some k) ds t e = worst_next check_check (there_data (k, d)) ds (λ i. (Fine ⊓ (t.1).0 i) ⊓ (t.1).1 i) e

one_plain : (n : ℕ) (o d k : Option Data) (ds : Items) → IsThere n o d k → items_have_float ds ≡ false → items_have_float (items_with (pick o d k) ds) ≡ false
one_plain n (Some x) d k ds t e = e
one_plain n None None k ds t e = e
one_plain n None (Some d) None ds t e = absurd t
one_plain n None (Some d) (Some k) ds t e = λ i. (((t.0).0).plain i || (((t.0).1).plain i || false)) || e i

one_meant : (s : Schema) (n : ℕ) (o d k : Option Data) (table property : ℕ) (row : Row) (added : RowRef) (by : ℤ) (ds : Items) (changes : List Change) → IsThere n o d k → each_in (check_of s) ds ≡ deleted changes
    → each_in (check_of s) (items_with (pick o d k) ds)
    ≡ deleted (cond (is_some o) (Put table row) (cond (is_some d) (Delete (record { table = table_in s d; key = values_in (named_in s d) (list_in k) })) (Add added property by)) ∷ changes)
one_meant s n (Some x) d k table property row added by ds changes t e = e
one_meant s n None None k table property row added by ds changes t e = e
one_meant s n None (Some d) None table property row added by ds changes t e = absurd t
one_meant s n None (Some d) (Some k) table property row added by ds changes t e = ap (λ xs. check_of s (there_data (k, d)) ∷ xs) e

-- ---- all of them

there_first : (n : ℕ) (w : Data) (ws : Items) → AreHeld (suc n) (item w ws) → worst write_check Fine (item w ws) ≡ Fine → IsThere n (get (codes "put") w) (get (codes "delete") w) (get (codes "key") w)
there_first n w ws h fine = is_there n w (held_first (suc n) w ws h) (worst_item write_check w ws fine)

pub deleted_said : (n : ℕ) (ws : Items) → AreHeld (suc n) ws → worst write_check Fine ws ≡ Fine → deleted_texts ws ++ 93 ∷ [] ≡ items_text true (deleted_trees ws)
deleted_said n no_items h fine = refl
deleted_said n (item w ws) h fine =
    append_assoc (deleted_text w) (deleted_texts ws) (93 ∷ []) ∙ ap (λ x. deleted_text w ++ x) (deleted_said n ws (held_behind (suc n) w ws h) (worst_behind write_check w ws fine))
    ∙ one_text n (get (codes "put") w) (get (codes "delete") w) (get (codes "key") w) (deleted_trees ws) (there_first n w ws h fine)

pub deleted_good : (n : ℕ) (ws : Items) → AreHeld (suc n) ws → worst write_check Fine ws ≡ Fine → AreGood (suc n) (deleted_trees ws)
deleted_good n no_items h fine = tt
deleted_good n (item w ws) h fine =
    one_good n (get (codes "put") w) (get (codes "delete") w) (get (codes "key") w) (deleted_trees ws) (there_first n w ws h fine) (deleted_good n ws (held_behind (suc n) w ws h) (worst_behind write_check w ws fine))

pub deleted_read : (n : ℕ) (ws : Items) → AreHeld (suc n) ws → worst write_check Fine ws ≡ Fine → of_items (deleted_trees ws) ≡ Some (deleted_items ws)
deleted_read n no_items h fine = refl
deleted_read n (item w ws) h fine =
    one_read n (get (codes "put") w) (get (codes "delete") w) (get (codes "key") w) (deleted_trees ws) (deleted_items ws) (there_first n w ws h fine) (deleted_read n ws (held_behind (suc n) w ws h) (worst_behind write_check w ws fine))

pub deleted_fine : (n : ℕ) (ws : Items) → AreHeld (suc n) ws → worst write_check Fine ws ≡ Fine → worst check_check Fine (deleted_items ws) ≡ Fine
deleted_fine n no_items h fine = refl
deleted_fine n (item w ws) h fine =
    one_fine n (get (codes "put") w) (get (codes "delete") w) (get (codes "key") w) (deleted_items ws) (there_first n w ws h fine) (deleted_fine n ws (held_behind (suc n) w ws h) (worst_behind write_check w ws fine))

pub deleted_plain : (n : ℕ) (ws : Items) → AreHeld (suc n) ws → worst write_check Fine ws ≡ Fine → items_have_float (deleted_items ws) ≡ false
deleted_plain n no_items h fine = refl
deleted_plain n (item w ws) h fine =
    one_plain n (get (codes "put") w) (get (codes "delete") w) (get (codes "key") w) (deleted_items ws) (there_first n w ws h fine) (deleted_plain n ws (held_behind (suc n) w ws h) (worst_behind write_check w ws fine))

pub deleted_meant : (s : Schema) (n : ℕ) (ws : Items) → AreHeld (suc n) ws → worst write_check Fine ws ≡ Fine → each_in (check_of s) (deleted_items ws) ≡ deleted (each_in (change_of s) ws)
deleted_meant s n no_items h fine = refl
deleted_meant s n (item w ws) h fine =
    one_meant s n (get (codes "put") w) (get (codes "delete") w) (get (codes "key") w) (table_in s (get (codes "put") w)) (property_in s (get (codes "add") w) (get (codes "property") w)) (put_row s w)
    (row_of s (codes "add") w) (whole_in (get (codes "by") w)) (deleted_items ws) (each_in (change_of s) ws) (there_first n w ws h fine)
    (deleted_meant s n ws (held_behind (suc n) w ws h) (worst_behind write_check w ws fine))
