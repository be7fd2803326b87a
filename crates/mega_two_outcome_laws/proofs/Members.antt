-- Objects with values under the names of properties: their text, what is read of it, and the values that stand in it.
use Rattle.std.proofs.Common.{◌≡◌, ℕ, zero, suc, ◌+◌, ◌-◌, ◌≤◌, ◌||◌, Bool, true, false, List, [], ◌∷◌, ◌++◌, length, refl, sym, ap, ◌∙◌, arith, append_assoc, Option, Some, None, Ordering, Less, Equal, Greater}
use Rattle.std.specs.Prelude.{is_some, not, option_and_then}
use Rattle.std.specs.List.{list_all}
use Rattle.std.specs.Option.{option_to_list}
use Rattle.std.specs.Ordering.{nat_cmp, match_ordering}
use Rattle.std.specs.Cmp.Lexicographic.{slice_cmp}
use Rattle.std.proofs.lemmas.Bool.{and_parts, not-true, or_parts}
use Rattle.std.proofs.lemmas.Option.{slice_get_within}
use Rattle.json.specs.Json as json
use Rattle.json.specs.Print.{quoted as json_quoted}
use Rattle.serde_json.specs.Data.{Data, null, boolean, number, string, array, object, Items, no_items, item, Members, no_members, member, put}
use Rattle.serde_json.specs.Find.{get_member, as_array}
use Rattle.serde_json.specs.Read.{of_members}
use Rattle.serde_json.specs.Written.{outline, has_float, members_have_float}
use Rattle.serde_json.proofs.Views.{get_member-put, get_member-put_other}
use Rattle.mega_base.specs.declared.values.Kind.{Kind}
use Rattle.mega_base.specs.declared.values.Row.{Row}
use Rattle.mega_syntax.specs.Names.{same}
use Rattle.mega_schema.specs.declared.schema.Property.{Property}
use Rattle.mega_schema.proofs.Naming.{same_is}
use Rattle.mega_index.specs.Cells.{values_of, key_values, leading}
use Rattle.mega_index.specs.Fits.{numbered}
use Rattle.mega_schedule.specs.declared.verdict.Verdict.TheVariants.{Fine}
use Rattle.mega_schedule.specs.Fields.{value_check, worst}
use Rattle.mega_schedule.specs.Parts.{cell_check, worst_cell}
use Rattle.mega_schedule.specs.Values.{values_at, value_of}
use Rattle.mega_schedule.specs.Rows.{cells_in}
use Rattle.mega_two_driver.specs.Texts.{quoted, value_text, member_text, members_text as key_text}
use Rattle.mega_two_driver.specs.Tables.{properties_at, same_names}
use Rattle.mega_two_outcome_laws.proofs.Trees.{text_of, members_text, HasGood}
use Rattle.mega_two_outcome_laws.proofs.Cells.{cell_is}
use Rattle.mega_two_outcome_laws.proofs.Letters.{is_text, plain_quoted, plain_utf8}
use Rattle.mega_two_outcome_laws.proofs.Tabled.{numbered_slice}
use Rattle.mega_two_outcome_laws.proofs.Held.{AreHeld, held_good, held_again, held_first, held_behind, value_said}
use Rattle.mega_two_outcome_laws.proofs.Joined.{both, worst_item, worst_behind}
use Rattle.mega_two_outcome_laws.proofs.Apart.{named, apart, apart_from}

-- the values, each under the name of its property, before the members that are left
abbrev pub keyed : Items → List Property → json.Members → json.Members
keyed no_items ws rest = rest
keyed (item d ds) [] rest = rest
keyed (item d ds) (w ∷ ws) rest = json.member w.name (outline d) (keyed ds ws rest)

-- put one after another
abbrev pub put_keys : Items → List Property → Members → Members
put_keys no_items ws found = found
put_keys (item d ds) [] found = found
put_keys (item d ds) (w ∷ ws) found = put_keys ds ws (put w.name d found)

-- ---- the text

abbrev pub are_valid : List Property → List ℕ → Bool
are_valid ps ns = list_all (λ n. is_some (numbered ps n)) ns

abbrev pub are_plain : List Property → Bool
are_plain ws = list_all (λ (w : Property). is_text w.name) ws

comma_first : (ds : Items) (ws : List Property) (k : List ℕ) (j : json.Json) (ms : json.Members)
    → 44 ∷ members_text false (keyed ds ws (json.member k j ms)) ≡ members_text true (keyed ds ws (json.member k j ms))
comma_first no_items ws k j ms = refl
comma_first (item d ds) [] k j ms = refl
comma_first (item d ds) (w ∷ ws) k j ms = refl

regroup : (q v m x : List ℕ) → ((q ++ 58 ∷ (v ++ 44 ∷ [])) ++ m) ++ x ≡ q ++ 58 ∷ (v ++ 44 ∷ (m ++ x))
regroup q v m x = simp append_assoc

pub keyed_text : (n : ℕ) (ps : List Property) (ns : List ℕ) (ds : Items) (k : List ℕ) (j : json.Json) (ms : json.Members) → are_valid ps ns ≡ true → are_plain (properties_at ps ns) ≡ true → AreHeld n ds
    → key_text ps ns ds ++ members_text false (json.member k j ms) ≡ members_text false (keyed ds (properties_at ps ns) (json.member k j ms))
keyed_text n ps [] no_items k j ms valid plain h = refl
keyed_text n ps [] (item d ds) k j ms valid plain h = refl
keyed_text n ps (m ∷ ns) no_items k j ms valid plain h = refl
keyed_text n ps (m ∷ ns) (item d ds) k j ms valid plain h =
    let v = and_parts (is_some (numbered ps m)) (are_valid ps ns) valid in
    by (numbered ps m) v.0 plain (λ plain. keyed_text n ps ns ds k j ms v.1 plain (held_behind n d ds h))
  where
    rest : json.Members
    rest = keyed ds (properties_at ps ns) (json.member k j ms)

    by : (o : Option Property) → is_some o ≡ true → are_plain (option_to_list o ++ properties_at ps ns) ≡ true
        → (are_plain (properties_at ps ns) ≡ true → key_text ps ns ds ++ members_text false (json.member k j ms) ≡ members_text false rest)
        → (member_text o d ++ key_text ps ns ds) ++ members_text false (json.member k j ms) ≡ members_text false (keyed (item d ds) (option_to_list o ++ properties_at ps ns) (json.member k j ms))
    by None there names others = absurd (cc)
    by (Some p) there names others =
        let q = and_parts (is_text p.name) (are_plain (properties_at ps ns)) names in
        regroup (quoted p.name) (value_text d) (key_text ps ns ds) (members_text false (json.member k j ms))
        ∙ (λ i. sym (plain_quoted p.name q.0) i ++ 58 ∷ (value_said n d (held_first n d ds h) i ++ 44 ∷ others q.1 i))
        ∙ ap (λ x. json_quoted p.name ++ 58 ∷ (text_of (outline d) ++ x)) (comma_first ds (properties_at ps ns) k j ms)

-- ---- what is read

pub keyed_read : (n : ℕ) (ds : Items) (ws : List Property) (rest : json.Members) (found : Members) → AreHeld n ds → of_members (keyed ds ws rest) found ≡ of_members rest (put_keys ds ws found)
keyed_read n no_items ws rest found h = refl
keyed_read n (item d ds) [] rest found h = refl
keyed_read n (item d ds) (w ∷ ws) rest found h =
    ap (option_and_then (λ x. of_members (keyed ds ws rest) (put w.name x found))) (held_again n d (held_first n d ds h)) ∙ keyed_read n ds ws rest (put w.name d found) (held_behind n d ds h)

pub keyed_good : (n : ℕ) (ds : Items) (ws : List Property) (rest : json.Members) → are_plain ws ≡ true → AreHeld n ds → HasGood n rest → HasGood n (keyed ds ws rest)
keyed_good n no_items ws rest plain h g = g
keyed_good n (item d ds) [] rest plain h g = g
keyed_good n (item d ds) (w ∷ ws) rest plain h g =
    let q = and_parts (is_text w.name) (are_plain ws) plain in
    (plain_utf8 w.name q.0, (held_good n d (held_first n d ds h), keyed_good n ds ws rest q.1 (held_behind n d ds h) g))

-- ---- cells without a fault

abbrev pub IsCell : Data → Type 0
IsCell d = (cell_check d ≡ Fine) × (has_float d ≡ false)

abbrev pub AreCells : Members → Type 0
AreCells no_members = Unit {0}
AreCells (member k d ms) = IsCell d × AreCells ms

pub cells_put : (k : List ℕ) (d : Data) (ms : Members) → IsCell d → AreCells ms → AreCells (put k d ms)
cells_put k d no_members one all = (one, tt)
cells_put k d (member l e ms) one all = by (slice_cmp nat_cmp k l) (cells_put k d ms one all.1)
  where
    by : (o : Ordering) → AreCells (put k d ms) → AreCells (match_ordering o (member k d (member l e ms)) (member l d ms) (member l e (put k d ms)))
    by Less rest = (one, all)
    by Equal rest = (one, all.1)
    by Greater rest = (all.0, rest)

pub cells_fine : (ms : Members) → AreCells ms → worst_cell Fine ms ≡ Fine
cells_fine no_members all = refl
cells_fine (member k d ms) all = ap (λ v. worst_cell v ms) (all.0).0 ∙ cells_fine ms all.1

pub cells_plain : (ms : Members) → AreCells ms → members_have_float ms ≡ false
cells_plain no_members all = refl
cells_plain (member k d ms) all = (λ i. (all.0).1 i || cells_plain ms all.1 i)

pub single : (d : Data) → value_check d ≡ Fine → (cell_check d ≡ Fine) × (as_array d ≡ None)
single null e = (e, refl)
single (boolean b) e = (e, refl)
single (number x) e = (e, refl)
single (string s) e = (e, refl)
single (array ds) e = absurd (cc)
single (object ms) e = (e, refl)

pub cells_keys : (n : ℕ) (ds : Items) (ws : List Property) (found : Members) → AreHeld n ds → worst value_check Fine ds ≡ Fine → AreCells found → AreCells (put_keys ds ws found)
cells_keys n no_items ws found h fine all = all
cells_keys n (item d ds) [] found h fine all = all
cells_keys n (item d ds) (w ∷ ws) found h fine all =
    cells_keys n ds ws (put w.name d found) (held_behind n d ds h) (worst_behind value_check d ds fine)
    (cells_put w.name d found ((single d (worst_item value_check d ds fine)).0, (held_first n d ds h).plain) all)

-- ---- the values that stand in it

abbrev pub HasKeys : Members → List Property → Items → Type 0
HasKeys ms [] no_items = Unit {0}
HasKeys ms [] (item d ds) = ⊥
HasKeys ms (w ∷ ws) no_items = ⊥
HasKeys ms (w ∷ ws) (item d ds) = ((get_member w.name ms ≡ Some d) × (as_array d ≡ None)) × HasKeys ms ws ds

pub keys_put : (ms : Members) (k : List ℕ) (x : Data) (ws : List Property) (ds : Items) → named k ws ≡ false → HasKeys ms ws ds → HasKeys (put k x ms) ws ds
keys_put ms k x [] no_items none h = tt
keys_put ms k x [] (item d ds) none h = absurd h
keys_put ms k x (w ∷ ws) no_items none h = absurd h
keys_put ms k x (w ∷ ws) (item d ds) none h =
    let q = or_parts (same w.name k) (named k ws) none in
    ((get_member-put_other w.name k x ms (apart_from w.name k q.0) ∙ (h.0).0, (h.0).1), keys_put ms k x ws ds q.1 h.1)

kept : (m : List ℕ) (ds : Items) (ws : List Property) (found : Members) → named m ws ≡ false → get_member m (put_keys ds ws found) ≡ get_member m found
kept m no_items ws found none = refl
kept m (item d ds) [] found none = refl
kept m (item d ds) (w ∷ ws) found none =
    let q = or_parts (same w.name m) (named m ws) none in
    kept m ds ws (put w.name d found) q.1 ∙ get_member-put_other m w.name d found (λ e. apart_from w.name m q.0 (sym e))

-- as many values as properties
abbrev pub AreEqual : List Property → Items → Type 0
AreEqual [] no_items = Unit {0}
AreEqual [] (item d ds) = ⊥
AreEqual (w ∷ ws) no_items = ⊥
AreEqual (w ∷ ws) (item d ds) = AreEqual ws ds

pub keys_there : (ds : Items) (ws : List Property) (found : Members) → apart ws ≡ true → worst value_check Fine ds ≡ Fine → AreEqual ws ds → HasKeys (put_keys ds ws found) ws ds
keys_there no_items [] found e fine same = tt
keys_there no_items (w ∷ ws) found e fine same = absurd same
keys_there (item d ds) [] found e fine same = absurd same
keys_there (item d ds) (w ∷ ws) found e fine same =
    let q = and_parts (not (named w.name ws)) (apart ws) e in (
      (kept w.name ds ws (put w.name d found) (not-true (named w.name ws) q.0) ∙ get_member-put w.name d found, (single d (worst_item value_check d ds fine)).1),
      keys_there ds ws (put w.name d found) q.1 (worst_behind value_check d ds fine) same,
    )

pub keys_last : (ms : Members) (ws : List Property) (ds : Items) (p : Property) (x : Data) → HasKeys ms ws ds → get_member p.name ms ≡ Some x → as_array x ≡ None → HasKeys ms (ws ++ p ∷ []) (both ds (item x no_items))
keys_last ms [] no_items p x h at one = ((at, one), tt)
keys_last ms [] (item d ds) p x h at one = absurd h
keys_last ms (w ∷ ws) no_items p x h at one = absurd h
keys_last ms (w ∷ ws) (item d ds) p x h at one = (h.0, keys_last ms ws ds p x h.1 at one)

-- ---- the key of its row

abbrev pub kind_in : Option Property → Option Kind
kind_in None = None
kind_in (Some p) = Some p.kind

abbrev pub row_by : List Property → Members → Row
row_by ps ms = record { cells = cells_in ps (Some (object ms)) }

number_again : (ps : List Property) (n : ℕ) (p : Property) → numbered ps n ≡ Some p → n ≡ n - 1 + 1
number_again ps zero p e = absurd (let none : None ≡ Some p = e in cc)
number_again ps (suc n) p e = omega arith

pub cell_at : (ps : List Property) (n : ℕ) (p : Property) (ms : Members) (d : Data) → length ps ≤ 64 → numbered ps n ≡ Some p → get_member p.name ms ≡ Some d → as_array d ≡ None
    → values_of (row_by ps ms) n ≡ value_of (Some p.kind) d ∷ []
cell_at ps n p ms d few at there one =
    let slot = slice_get_within ps (n - 1) p (numbered_slice ps n p at) in
    ap (values_of (row_by ps ms)) (number_again ps n p at)
    ∙ cell_is ps (n - 1) (object ms) p d (numbered_slice ps n p at) (omega (arith, slot, few)) (record { there = there; no_list = one })

pub key_is : (ps : List Property) (ns : List ℕ) (ws : List Property) (ds : Items) (ms : Members) → length ps ≤ 64 → are_valid ps ns ≡ true → same_names (properties_at ps ns) ws ≡ true → HasKeys ms ws ds
    → key_values ns (row_by ps ms) ≡ values_at ps ns ds
key_is ps [] [] no_items ms few valid names h = refl
key_is ps [] [] (item d ds) ms few valid names h = absurd h
key_is ps [] (w ∷ ws) ds ms few valid names h = absurd (cc)
key_is ps (n ∷ ns) ws ds ms few valid names h =
    let v = and_parts (is_some (numbered ps n)) (are_valid ps ns) valid in
    by (numbered ps n) refl ws ds v.0 names h (λ ws ds names h. key_is ps ns ws ds ms few v.1 names h)
  where
    by : (o : Option Property) → numbered ps n ≡ o → (ws : List Property) (ds : Items) → is_some o ≡ true → same_names (option_to_list o ++ properties_at ps ns) ws ≡ true → HasKeys ms ws ds
        → ((ws : List Property) (ds : Items) → same_names (properties_at ps ns) ws ≡ true → HasKeys ms ws ds → key_values ns (row_by ps ms) ≡ values_at ps ns ds)
        → leading (values_of (row_by ps ms) n) (key_values ns (row_by ps ms)) ≡ values_at ps (n ∷ ns) ds
    by None at ws ds there names h rest = absurd (cc)
    by (Some p) at [] ds there names h rest = absurd (cc)
    by (Some p) at (w ∷ ws) no_items there names h rest = absurd h
    by (Some p) at (w ∷ ws) (item d ds) there names h rest =
        let q = and_parts (same p.name w.name) (same_names (properties_at ps ns) ws) names in
        (λ i. leading (cell_at ps n p ms d few at (ap (λ x. get_member x ms) (same_is p.name w.name q.0) ∙ (h.0).0) (h.0).1 i) (rest ws ds q.1 h.1 i))
        ∙ ap (λ o. value_of o d ∷ values_at ps ns ds) (sym (ap kind_in at))
