-- What is read from JSON as a row, a find, a mark or a result is plain.
use Rattle.std.proofs.Common.{◌≡◌, ℕ, suc, ◌+◌, ◌-◌, ◌^◌, ◌<◌, ◌≤◌, ◌==◌, ◌&&◌, ◌||◌, not, cond, ℤ, pos, negsuc, Bool, true, false, nat_lt, nat_le, List, [], ◌∷◌, ◌++◌, length, refl, sym, ap, ap₂, ◌∙◌, subst, Option, Some, None, Result, Ok, Err, arith, codes, IsUtf8, lt-ltb}
use Rattle.std.specs.Prelude.{if◌then◌else◌, option_and_then, unwrap_or, slice_get}
use Rattle.std.specs.Result.{result_ok}
use Rattle.std.specs.List.{AllByRecursion, list_all, position_or_len}
use Rattle.std.specs.Str.{is_utf8}
use Rattle.std.proofs.lemmas.Bool.{ltb-true, leb-true, eq-eqb, ne_eqb}
use Rattle.std.proofs.lemmas.Slice.Eq.{bytes_eq-Decides}
use Rattle.std.proofs.lemmas.Str.{IsUtf8-nil, IsUtf8-from_is_utf8, is_utf8-from_IsUtf8}
use Rattle.hex.specs.Hex.{decode_of, IsBytes}
use Rattle.hex.specs.declared.error.FromHexError.{FromHexError}
use Rattle.hex.proofs.HexLemmas.{decode_of-ok}
use Rattle.serde_json.specs.Data.{Data, Items, no_items, item}
use Rattle.serde_json.specs.Find.{get, as_str, as_number, as_u64, as_i64}
use Rattle.mega_base.specs.declared.values.Kind.{Kind}
use Rattle.mega_base.specs.declared.values.Kind.TheVariants as kinds
use Rattle.mega_base.specs.declared.values.Value.{Value}
use Rattle.mega_base.specs.declared.values.Cell.{Cell}
use Rattle.mega_keys.specs.Fit.{has_kind, key_kinds, IsWithin}
use Rattle.mega_syntax.specs.Names.{same}
use Rattle.mega_schema.specs.declared.schema.Property.{Property}
use Rattle.mega_schema.specs.declared.schema.Table.{Table}
use Rattle.mega_schema.specs.declared.schema.Schema.{Schema}
use Rattle.mega_schema.specs.Lookup.{property_at, is_repeated}
use Rattle.mega_schema.specs.Shaping.{table_at, shape_of}
use Rattle.mega_outcome.specs.of_index.declared.found.Found.{Found}
use Rattle.mega_outcome.specs.declared.answer.Turn.{Turn}
use Rattle.mega_outcome.specs.declared.answer.Turn.TheVariants as turns
use Rattle.mega_transcript.specs.Named.{number_of_place, table_number, names_table, names_property}
use Rattle.mega_transcript.specs.PlainNames.{IsU32, IsU64}
use Rattle.mega_transcript.specs.PlainTurns.{IsPlainTurn}
use Rattle.mega_transcript.specs.PlainRows.{IsHeld, IsPlainCell, ArePlainCells, ArePlainIn, IsPlainShown, ArePlainRows, HaveKinds, IsPlainKey, ArePlainFinds, are_marks, is_alone, IsHeldMark, AreHeldMarks, ArePlainMarks, ArePlainFindMarks, IsPlainResult, ArePlainResults}
use Rattle.mega_transcript_reader.specs.ReadingRows.{up_to, number_in, is_int32, int32_of, is_int64, int64_of, utf8_of, text_in, bytes_in, list_in, each_in, value_in, values_in, cell_if, cell_in, cells_in, pair_of, triple_of, shown_at, shown_of, shown_in, rows_in, first_or_null, behind, values_by, found_at, found_of, found_in, finds_of, finds_in, mark_of, mark_in, all_marks_in, marks_if, marks_in, find_marks_in, turn_named, turned_or_none, committed_of, result_of, result_in, results_in}
use Rattle.mega_transcript_reader.proofs.RowsAgain.{StandBehind, first_stands, others_stand, all_stand}

-- ---- values

up_to_most : (most : ℕ) (o : Option ℕ) → up_to most o ≤ most
up_to_most most None = omega arith
up_to_most most (Some n) = by (nat_le n most) refl
  where
    by : (b : Bool) → nat_le n most ≡ b → (if b then n else 0) ≤ most
    by true e = leb-true n most e
    by false e = omega arith

int32_held : (o : Option ℤ) → IsWithin (2 ^ 31) (int32_of o)
int32_held None = omega arith
int32_held (Some z) = by z (is_int32 z) refl
  where
    by : (z : ℤ) (b : Bool) → is_int32 z ≡ b → IsWithin (2 ^ 31) (if b then z else pos 0)
    by (pos n) true e = ltb-true n (2 ^ 31) e
    by (negsuc n) true e = ltb-true n (2 ^ 31) e
    by z false e = omega arith

int64_held : (o : Option ℤ) → IsWithin (2 ^ 63) (int64_of o)
int64_held None = omega arith
int64_held (Some z) = by z (is_int64 z) refl
  where
    by : (z : ℤ) (b : Bool) → is_int64 z ≡ b → IsWithin (2 ^ 63) (if b then z else pos 0)
    by (pos n) true e = ltb-true n (2 ^ 63) e
    by (negsuc n) true e = ltb-true n (2 ^ 63) e
    by z false e = omega arith

utf8_held : (o : Option (List ℕ)) → IsUtf8 (utf8_of o)
utf8_held None = IsUtf8-nil
utf8_held (Some s) = by (is_utf8 s) refl
  where
    by : (b : Bool) → is_utf8 s ≡ b → IsUtf8 (if b then s else [])
    by true e = IsUtf8-from_is_utf8 s e
    by false e = IsUtf8-nil

pub text_held : (d : Data) → IsUtf8 (text_in d)
text_held d = utf8_held (as_str d)

bytes_held : (d : Data) → IsBytes (bytes_in d)
bytes_held d = by (decode_of (text_in d)) refl
  where
    none : IsBytes []
    none i = omega arith

    by : (r : Result (List ℕ) FromHexError) → decode_of (text_in d) ≡ r → IsBytes (unwrap_or (result_ok r) [])
    by (Ok bytes) e = (decode_of-ok (text_in d) bytes e).3
    by (Err fault) e = none

value_held : (kind : Kind) (d : Data) → IsHeld (value_in kind d)
value_held kinds.Int32 d = int32_held (option_and_then as_i64 (as_number d))
value_held kinds.Int64 d = int64_held (option_and_then as_i64 (as_number d))
value_held kinds.Bool d = tt
value_held kinds.Str d = text_held d
value_held kinds.Raw d = bytes_held d

value_kind : (kind : Kind) (d : Data) → has_kind kind (value_in kind d) ≡ true
value_kind kinds.Int32 d = refl
value_kind kinds.Int64 d = refl
value_kind kinds.Bool d = refl
value_kind kinds.Str d = refl
value_kind kinds.Raw d = refl

each_fits : {A : Type 0} (read : Data → A) (P : A → Type 0) → ((d : Data) → P (read d)) → (ds : Items) → AllByRecursion P (each_in read ds)
each_fits read P each no_items = tt
each_fits read P each (item d ds) = (each d, each_fits read P each ds)

each_kind : (kind : Kind) (ds : Items) → list_all (has_kind kind) (each_in (value_in kind) ds) ≡ true
each_kind kind no_items = refl
each_kind kind (item d ds) = ap (λ b. b && list_all (has_kind kind) (each_in (value_in kind) ds)) (value_kind kind d) ∙ each_kind kind ds

-- ---- cells

values_held : (property : Property) (d : Data) → AllByRecursion IsHeld (values_in property d)
values_held property d = by (is_repeated property.need)
  where
    by : (b : Bool) → AllByRecursion IsHeld (if b then each_in (value_in property.kind) (list_in d) else value_in property.kind d ∷ [])
    by true = each_fits (value_in property.kind) IsHeld (value_held property.kind) (list_in d)
    by false = (value_held property.kind d, tt)

-- values that are some fit
some_fit : (kind : Kind) (repeated : Bool) (d : Data) (v : Value) (values : List Value) → (if repeated then each_in (value_in kind) (list_in d) else value_in kind d ∷ []) ≡ v ∷ values
    → (list_all (has_kind kind) (v ∷ values) && (if repeated then nat_lt 0 (length (v ∷ values)) else length (v ∷ values) == 1)) ≡ true
some_fit kind true d v values e =
    let some : 0 < length (v ∷ values) = omega arith in
    ap₂ (λ a b. a && b) (ap (list_all (has_kind kind)) (sym e) ∙ each_kind kind (list_in d)) (lt-ltb 0 (length (v ∷ values)) some)
some_fit kind false d v values e =
    subst (λ vs. (list_all (has_kind kind) vs && (length vs == 1)) ≡ true) e (ap (λ b. (b && true) && true) (value_kind kind d))

less : (all : List Property) (low : ℕ) (cells : List Cell) → ArePlainCells all (low + 1) cells → ArePlainCells all low cells
less all low [] plain = tt
less all low (cell ∷ cells) plain = (omega (arith, plain.0), plain.1)

cell_fits : (all : List Property) (low : ℕ) (property : Property) (o : Option Data) (cells : List Cell) → property_at all (low + 1) ≡ Some property → ArePlainCells all (low + 1) cells
    → ArePlainCells all low (cell_in all (low + 1) property o ++ cells)
cell_fits all low property None cells at plain = less all low cells plain
cell_fits all low property (Some d) cells at plain = by (names_property all (low + 1) property.name) refl (values_in property d) refl
  where
    by : (b : Bool) → names_property all (low + 1) property.name ≡ b → (values : List Value) → values_in property d ≡ values → ArePlainCells all low ((if b then cell_if (low + 1) values else []) ++ cells)
    by false off values e = less all low cells plain
    by true on [] e = less all low cells plain
    by true on (v ∷ values) e =
        let cell : Cell = record { property = low + 1; values = v ∷ values } in
        let own : IsPlainCell all (Some property) cell = (on, (some_fit property.kind (is_repeated property.need) d v values e, subst (AllByRecursion IsHeld) e (values_held property d))) in
        (omega arith, (subst (λ p. IsPlainCell all p cell) (sym at) own, plain))

cells_fit : (all : List Property) (low : ℕ) (properties : List Property) (d : Data) → StandBehind all low properties → ArePlainCells all low (cells_in all (low + 1) properties d)
cells_fit all low [] d at = tt
cells_fit all low (property ∷ properties) d at =
    cell_fits all low property (get property.name d) (cells_in all (low + 1 + 1) properties d) (first_stands all low property properties at)
    (cells_fit all (low + 1) properties d (others_stand all low property properties at))

-- ---- tables

at_place : (name : List ℕ) (tables : List Table) (table : Table) → slice_get tables (position_or_len (λ t. same t.name name) tables) ≡ Some table → same table.name name ≡ true
at_place name [] table h = absurd (cc)
at_place name (first ∷ tables) table h = by (at_place name tables table) (same first.name name) refl h
  where
    by : (slice_get tables (position_or_len (λ t. same t.name name) tables) ≡ Some table → same table.name name ≡ true)
        → (b : Bool) → same first.name name ≡ b → slice_get (first ∷ tables) (cond (not b) (1 + position_or_len (λ t. same t.name name) tables) 0) ≡ Some table → same table.name name ≡ true
    by later true e k = let is : first ≡ table = cc in subst (λ t. same t.name name ≡ true) is e
    by later false e k =
        let next : 1 + position_or_len (λ t. same t.name name) tables ≡ suc (position_or_len (λ t. same t.name name) tables) = omega arith in
        later (sym (ap (slice_get (first ∷ tables)) next) ∙ k)

-- the table with the number of a name has that name
numbered_named : (tables : List Table) (name : List ℕ) (table : Table) → table_at tables (table_number tables name) ≡ Some table → table.name ≡ name
numbered_named tables name table h = by (nat_lt (position_or_len (λ t. same t.name name) tables) (length tables)) h
  where
    small : (i : ℕ) (b : Bool) → table_at tables (if b then i + 1 else 0) ≡ Some table → slice_get tables i ≡ Some table
    small i true k =
        ap (slice_get tables) (let e : i ≡ i + 1 - 1 = omega arith in e)
        ∙ (ap (λ b. if b then None else slice_get tables (i + 1 - 1)) (sym (ne_eqb (i + 1) 0 (λ e. omega (arith, e)))) ∙ k)
    small i false k = absurd (cc)

    by : (b : Bool) → table_at tables (number_of_place (cond b (Some (position_or_len (λ t. same t.name name) tables)) None)) ≡ Some table → table.name ≡ name
    by true k =
        (bytes_eq-Decides table.name name).0 (at_place name tables table (small (position_or_len (λ t. same t.name name) tables) (nat_lt (position_or_len (λ t. same t.name name) tables) 255) k))
    by false k = absurd (cc)

number_names : (schema : Schema) (d : Data) (table : Table) → table_at schema.tables (table_number schema.tables (text_in d)) ≡ Some table
    → names_table schema.tables (table_number schema.tables (text_in d)) table.name ≡ true
number_names schema d table h =
    let named = numbered_named schema.tables (text_in d) table h in
    ap (λ name. is_utf8 name && (table_number schema.tables name == table_number schema.tables (text_in d))) named
    ∙ (ap (λ b. b && (table_number schema.tables (text_in d) == table_number schema.tables (text_in d))) (is_utf8-from_IsUtf8 (text_in d) (text_held d))
    ∙ eq-eqb (table_number schema.tables (text_in d)) (table_number schema.tables (text_in d)) refl)

-- a row of the table that is named
pub in_fits : (schema : Schema) (d row : Data) (table : Table) → table_at schema.tables (table_number schema.tables (text_in d)) ≡ Some table
    → ArePlainIn schema (table_number schema.tables (text_in d)) (table_at schema.tables (table_number schema.tables (text_in d))) (cells_in table.properties 1 table.properties row)
in_fits schema d row table h =
    subst (λ o. ArePlainIn schema (table_number schema.tables (text_in d)) o (cells_in table.properties 1 table.properties row)) (sym h)
    (number_names schema d table h, cells_fit table.properties 0 table.properties row (all_stand table.properties))

shown_fits : (schema : Schema) (d : Data) → IsPlainShown schema (shown_in schema d)
shown_fits schema d = by (pair_of (list_in d))
  where
    at : (name row : Data) (o : Option Table) → table_at schema.tables (table_number schema.tables (text_in name)) ≡ o → IsPlainShown schema (shown_at (table_number schema.tables (text_in name)) o row)
    at name row None e = tt
    at name row (Some table) e = in_fits schema name row table e

    by : (o : Option (Data × Data)) → IsPlainShown schema (shown_of schema o)
    by None = tt
    by (Some pair) = at pair.0 pair.1 (table_at schema.tables (table_number schema.tables (text_in pair.0))) refl

pub rows_fit : (schema : Schema) (d : Data) → ArePlainRows schema (rows_in schema d)
rows_fit schema d = each_fits (shown_in schema) (IsPlainShown schema) (shown_fits schema) (list_in d)

-- ---- finds

key_fits : (ks : List Kind) (ds : Items) → HaveKinds ks (values_by ks ds)
key_fits [] ds = tt
key_fits (kind ∷ ks) ds = (value_kind kind (first_or_null ds), (value_held kind (first_or_null ds), key_fits ks (behind ds)))

both_fit : (schema : Schema) (finds more : List Found) → ArePlainFinds schema finds → ArePlainFinds schema more → ArePlainFinds schema (finds ++ more)
both_fit schema [] more f g = g
both_fit schema (found ∷ finds) more f g = (f.0, both_fit schema finds more f.1 g)

found_fits : (schema : Schema) (d : Data) → ArePlainFinds schema (found_in schema d)
found_fits schema d = by (triple_of (list_in d))
  where
    at : (name key row : Data) (o : Option Table) → table_at schema.tables (table_number schema.tables (text_in name)) ≡ o → ArePlainFinds schema (found_at schema (table_number schema.tables (text_in name)) o key row)
    at name key row None e = tt
    at name key row (Some table) e =
        let n : ℕ = table_number schema.tables (text_in name) in
        ((in_fits schema name row table e, subst (λ o. IsPlainKey schema n o (values_by (key_kinds (shape_of schema n table)) (list_in key))) (sym e) (key_fits (key_kinds (shape_of schema n table)) (list_in key))), tt)

    by : (o : Option (Data × (Data × Data))) → ArePlainFinds schema (found_of schema o)
    by None = tt
    by (Some parts) = at parts.0 (parts.1).0 (parts.1).1 (table_at schema.tables (table_number schema.tables (text_in parts.0))) refl

each_found_fits : (schema : Schema) (ds : Items) → ArePlainFinds schema (finds_of schema ds)
each_found_fits schema no_items = tt
each_found_fits schema (item d ds) = both_fit schema (found_in schema d) (finds_of schema ds) (found_fits schema d) (each_found_fits schema ds)

pub finds_fit : (schema : Schema) (d : Data) → ArePlainFinds schema (finds_in schema d)
finds_fit schema d = each_found_fits schema (list_in d)

-- ---- marks

mark_fits : (d : Data) → IsHeldMark (mark_in d)
mark_fits d = by (pair_of (list_in d))
  where
    none : IsBytes []
    none i = omega arith

    by : (o : Option (Data × Data)) → IsHeldMark (mark_of o)
    by None = (none, omega arith)
    by (Some pair) = (bytes_held pair.0, up_to_most 18446744073709551615 (option_and_then as_u64 (as_number pair.1)))

all_marks_fit : (d : Data) → AreHeldMarks (all_marks_in d)
all_marks_fit d = each_fits mark_in IsHeldMark mark_fits (list_in d)

pub marks_fit : (d : Data) → ArePlainMarks (marks_in d)
marks_fit d = by (are_marks (all_marks_in d)) refl
  where
    by : (b : Bool) → are_marks (all_marks_in d) ≡ b → ArePlainMarks (marks_if b (all_marks_in d))
    by true e = (e, all_marks_fit d)
    by false e = (refl, tt)

pub find_marks_fit : (d : Data) → ArePlainFindMarks (find_marks_in d)
find_marks_fit d = by (are_marks (all_marks_in d) || is_alone (all_marks_in d)) refl
  where
    by : (b : Bool) → (are_marks (all_marks_in d) || is_alone (all_marks_in d)) ≡ b → ArePlainFindMarks (marks_if b (all_marks_in d))
    by true e = (e, all_marks_fit d)
    by false e = (refl, tt)

-- ---- results

-- a turn that a word names is plain, or there is none
turned_fits : (schema : Schema) (b : Bool) (turn : Turn) (o : Option Turn) → IsPlainTurn turn → IsPlainResult schema (turned_or_none o) → IsPlainResult schema (turned_or_none (if b then Some turn else o))
turned_fits schema true turn o f g = f
turned_fits schema false turn o f g = g

turn_fits : (schema : Schema) (word : List ℕ) (d : Data) → IsPlainResult schema (turned_or_none (turn_named word d))
turn_fits schema word d =
    let few : IsU32 (number_in 4294967295 d) = up_to_most 4294967295 (option_and_then as_u64 (as_number d)) in
    let many : IsU64 (number_in 18446744073709551615 d) = up_to_most 18446744073709551615 (option_and_then as_u64 (as_number d)) in
    turned_fits schema (same word (codes "othergroup")) (turns.OtherGroup (number_in 4294967295 d)) _ few
    (turned_fits schema (same word (codes "badrow")) (turns.BadRow (number_in 4294967295 d)) _ few
    (turned_fits schema (same word (codes "check")) (turns.CheckFailed (number_in 4294967295 d)) _ few
    (turned_fits schema (same word (codes "norow")) (turns.NoRow (number_in 4294967295 d)) _ few
    (turned_fits schema (same word (codes "overflow")) (turns.Overflow (number_in 4294967295 d)) _ few
    (turned_fits schema (same word (codes "toolarge")) (turns.TooLarge (number_in 18446744073709551615 d)) None many tt)))))

result_fits : (schema : Schema) (d : Data) → IsPlainResult schema (result_in schema d)
result_fits schema d = by (triple_of (list_in d))
  where
    pair : (o : Option (Data × Data)) → IsPlainResult schema (committed_of schema o)
    pair None = tt
    pair (Some parts) = rows_fit schema parts.1

    by : (o : Option (Data × (Data × Data))) → IsPlainResult schema (result_of schema (list_in d) o)
    by None = pair (pair_of (list_in d))
    by (Some parts) = turn_fits schema (text_in (parts.1).0) (parts.1).1

pub results_fit : (schema : Schema) (d : Data) → ArePlainResults schema (results_in schema d)
results_fit schema d = each_fits (result_in schema) (IsPlainResult schema) (result_fits schema) (list_in d)
