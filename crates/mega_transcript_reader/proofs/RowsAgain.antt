-- Plain rows, finds, marks and results are read back from what is shown of them.
use Rattle.std.proofs.Common.{◌≡◌, ℕ, suc, ◌+◌, ◌-◌, ◌^◌, ◌<◌, ◌≤◌, ◌==◌, ◌||◌, ℤ, pos, negsuc, Bool, true, false, nat_lt, List, [], ◌∷◌, ◌++◌, length, map, refl, sym, ap, ap₂, ◌∙◌, subst, Option, Some, None, Result, Ok, Err, arith, codes, lt-ltb, le-leb, ne_eqb, true≢false, inl, inr}
use Rattle.std.specs.Prelude.{if◌then◌else◌, unwrap_or, slice_get}
use Rattle.std.specs.Result.{result_ok}
use Rattle.std.specs.List.{AllByRecursion, list_all}
use Rattle.std.specs.Str.{is_utf8}
use Rattle.std.proofs.lemmas.Bool.{and_parts, cases_eq, cases_lt, eqb-true, eqb-false, eq-eqb}
use Rattle.hex.specs.Hex.{encode_lower, decode_of, IsBytes}
use Rattle.hex.proofs.HexLemmas.{decode_of-encode_lower}
use Rattle.json.proofs.Printed.Utf8.{IsUtf8-are_ascii}
use Rattle.serde_json.specs.Data.{Data, number, string, object, unsigned, Members, no_members, put}
use Rattle.serde_json.specs.Find.{get_member, get, as_i64, of_integer}
use Rattle.serde_json.specs.View.{items_of}
use Rattle.serde_json.proofs.Views.{get_member-put, get_member-put_other}
use Rattle.mega_base.specs.declared.values.Kind.{Kind}
use Rattle.mega_base.specs.declared.values.Kind.TheVariants as kinds
use Rattle.mega_base.specs.declared.values.Value.{Value}
use Rattle.mega_base.specs.declared.values.Value.TheVariants.{Int32, Int64, Bool as Truth, Str, Raw}
use Rattle.mega_base.specs.declared.values.Cell.{Cell}
use Rattle.mega_keys.specs.Fit.{has_kind, key_kinds, IsWithin}
use Rattle.mega_schema.specs.declared.schema.Property.{Property}
use Rattle.mega_schema.specs.declared.schema.Table.{Table}
use Rattle.mega_schema.specs.declared.schema.Schema.{Schema}
use Rattle.mega_schema.specs.Lookup.{property_at, is_repeated}
use Rattle.mega_schema.specs.Shaping.{table_at, shape_of}
use Rattle.mega_outcome.specs.of_index.declared.found.Found.{Found}
use Rattle.mega_outcome.specs.declared.answer.Shown.{Shown}
use Rattle.mega_outcome.specs.declared.answer.Mark.{Mark}
use Rattle.mega_outcome.specs.declared.answer.Turn.{Turn}
use Rattle.mega_outcome.specs.declared.answer.Turn.TheVariants as turns
use Rattle.mega_transcript.specs.Rows.{value_data, values_data, fits_property, cell_data, with_cell, cells_members, name_of, properties_of, shown_data, rows_data, found_data, finds_data, mark_data, marks_data}
use Rattle.mega_transcript.specs.Answers.{turn_word, turn_number, result_data, results_data}
use Rattle.mega_transcript.specs.Named.{table_number, names_table, property_number, names_property}
use Rattle.mega_transcript.specs.PlainTurns.{IsPlainTurn}
use Rattle.mega_transcript.specs.PlainRows.{IsHeld, IsPlainCell, ArePlainCells, ArePlainIn, IsPlainShown, ArePlainRows, HaveKinds, IsPlainKey, IsPlainFound, ArePlainFinds, are_marks, is_alone, IsHeldMark, AreHeldMarks, ArePlainMarks, ArePlainFindMarks, IsPlainResult, ArePlainResults}
use Rattle.mega_transcript_reader.specs.ReadingRows.{up_to, int32_of, int64_of, text_in, bytes_in, list_in, each_in, value_in, values_in, cell_if, cell_in, cells_in, shown_at, shown_by, shown_in, rows_in, values_by, found_at, found_by, found_in, finds_in, mark_in, all_marks_in, marks_if, marks_in, find_marks_in, turn_named, turned_or_none, result_in, results_in}
use Rattle.mega_transcript_reader.proofs.Parts.{utf8}
use Rattle.mega_transcript_reader.proofs.SoundRows.{hex_utf8}

-- ---- values

int32_again : (z : ℤ) → IsWithin (2 ^ 31) z → int32_of (as_i64 (of_integer z)) ≡ z
int32_again (pos n) h =
    ap (λ b. int32_of (if b then Some (pos n) else None)) (lt-ltb n (2 ^ 63) (omega (arith, h))) ∙ ap (λ b. if b then pos n else pos 0) (lt-ltb n (2 ^ 31) h)
int32_again (negsuc n) h = ap (λ b. if b then negsuc n else pos 0) (lt-ltb n (2 ^ 31) h)

int64_again : (z : ℤ) → IsWithin (2 ^ 63) z → int64_of (as_i64 (of_integer z)) ≡ z
int64_again (pos n) h = ap (λ b. int64_of (if b then Some (pos n) else None)) (lt-ltb n (2 ^ 63) h) ∙ ap (λ b. if b then pos n else pos 0) (lt-ltb n (2 ^ 63) h)
int64_again (negsuc n) h = ap (λ b. if b then negsuc n else pos 0) (lt-ltb n (2 ^ 63) h)

bytes_again : (bytes : List ℕ) → IsBytes bytes → bytes_in (string (encode_lower bytes)) ≡ bytes
bytes_again bytes h =
    ap (λ t. unwrap_or (result_ok (decode_of t)) []) (utf8 (encode_lower bytes) (hex_utf8 bytes)) ∙ ap (λ r. unwrap_or (result_ok r) []) (decode_of-encode_lower bytes h)

number_again : (most n : ℕ) → n ≤ most → up_to most (Some n) ≡ n
number_again most n h = ap (λ b. if b then n else 0) (le-leb n most h)

value_again : (kind : Kind) (value : Value) → has_kind kind value ≡ true → IsHeld value → value_in kind (value_data value) ≡ value
value_again kinds.Int32 (Int32 z) fit h = ap (λ x. Int32 x) (int32_again z h)
value_again kinds.Int32 (Int64 z) fit h = absurd (cc)
value_again kinds.Int32 (Truth b) fit h = absurd (cc)
value_again kinds.Int32 (Str text) fit h = absurd (cc)
value_again kinds.Int32 (Raw bytes) fit h = absurd (cc)
value_again kinds.Int64 (Int32 z) fit h = absurd (cc)
value_again kinds.Int64 (Int64 z) fit h = ap (λ x. Int64 x) (int64_again z h)
value_again kinds.Int64 (Truth b) fit h = absurd (cc)
value_again kinds.Int64 (Str text) fit h = absurd (cc)
value_again kinds.Int64 (Raw bytes) fit h = absurd (cc)
value_again kinds.Bool (Int32 z) fit h = absurd (cc)
value_again kinds.Bool (Int64 z) fit h = absurd (cc)
value_again kinds.Bool (Truth b) fit h = refl
value_again kinds.Bool (Str text) fit h = absurd (cc)
value_again kinds.Bool (Raw bytes) fit h = absurd (cc)
value_again kinds.Str (Int32 z) fit h = absurd (cc)
value_again kinds.Str (Int64 z) fit h = absurd (cc)
value_again kinds.Str (Truth b) fit h = absurd (cc)
value_again kinds.Str (Str text) fit h = ap (λ t. Str t) (utf8 text h)
value_again kinds.Str (Raw bytes) fit h = absurd (cc)
value_again kinds.Raw (Int32 z) fit h = absurd (cc)
value_again kinds.Raw (Int64 z) fit h = absurd (cc)
value_again kinds.Raw (Truth b) fit h = absurd (cc)
value_again kinds.Raw (Str text) fit h = absurd (cc)
value_again kinds.Raw (Raw bytes) fit h = ap (λ t. Raw t) (bytes_again bytes h)

each_again : {A : Type 0} (read : Data → A) (show : A → Data) (P : A → Type 0) → ((x : A) → P x → read (show x) ≡ x) → (xs : List A) → AllByRecursion P xs → each_in read (items_of (map show xs)) ≡ xs
each_again read show P each [] h = refl
each_again read show P each (x ∷ xs) h = ap₂ (λ y ys. y ∷ ys) (each x h.0) (each_again read show P each xs h.1)

-- values of one kind
values_again : (kind : Kind) (values : List Value) → list_all (has_kind kind) values ≡ true → AllByRecursion IsHeld values → each_in (value_in kind) (items_of (map value_data values)) ≡ values
values_again kind [] fit h = refl
values_again kind (v ∷ values) fit h =
    let parts = and_parts (has_kind kind v) (list_all (has_kind kind) values) fit in
    ap₂ (λ y ys. y ∷ ys) (value_again kind v parts.0 h.0) (values_again kind values parts.1 h.1)

-- ---- cells

-- the values of a cell that fits are read back, and there are some
by_need : (repeated : Bool) (kind : Kind) (v : Value) (values : List Value) → list_all (has_kind kind) (v ∷ values) ≡ true
    → (if repeated then nat_lt 0 (length (v ∷ values)) else length (v ∷ values) == 1) ≡ true → AllByRecursion IsHeld (v ∷ values)
    → (if repeated then each_in (value_in kind) (list_in (if repeated then values_data (v ∷ values) else value_data v)) else value_in kind (if repeated then values_data (v ∷ values) else value_data v) ∷ []) ≡ v ∷ values
by_need true kind v values fit count h = values_again kind (v ∷ values) fit h
by_need false kind v [] fit count h = ap (λ x. x ∷ []) (value_again kind v (and_parts (has_kind kind v) true fit).0 h.0)
by_need false kind v (w ∷ values) fit count h = absurd (omega (arith, eqb-true (length (v ∷ w ∷ values)) 1 count))

some_values : (repeated : Bool) → (if repeated then nat_lt 0 0 else 0 == 1) ≡ true → ⊥
some_values true h = true≢false (sym h)
some_values false h = true≢false (sym h)

cell_again : (n : ℕ) (property : Property) (values : List Value) → fits_property property values ≡ true → AllByRecursion IsHeld values
    → cell_if n (values_in property (cell_data property values)) ≡ record { property = n; values = values } ∷ []
cell_again n property [] fit h = absurd (some_values (is_repeated property.need) (and_parts (list_all (has_kind property.kind) []) _ fit).1)
cell_again n property (v ∷ values) fit h =
    let parts = and_parts (list_all (has_kind property.kind) (v ∷ values)) (if is_repeated property.need then nat_lt 0 (length (v ∷ values)) else length (v ∷ values) == 1) fit in
    ap (cell_if n) (by_need (is_repeated property.need) property.kind v values parts.0 parts.1 h)

-- the number that a name names
number_named : (all : List Property) (n : ℕ) (name : List ℕ) → names_property all n name ≡ true → property_number all name ≡ n
number_named all n name h = eqb-true (property_number all name) n (and_parts (is_utf8 name) (property_number all name == n) h).1

-- what the cell of a property shows, where there is one
abbrev found_cell : Property → ℕ → List Cell → Option Data
found_cell property n [] = None
found_cell property n (cell ∷ cells) = if cell.property == n then Some (cell_data property cell.values) else found_cell property n cells

none_below : (all : List Property) (low : ℕ) (cells : List Cell) (property : Property) (n : ℕ) → ArePlainCells all low cells → n ≤ low → found_cell property n cells ≡ None
none_below all low [] property n plain le = refl
none_below all low (cell ∷ cells) property n plain le =
    ap (λ b. if b then Some (cell_data property cell.values) else found_cell property n cells) (ne_eqb cell.property n (λ e. omega (arith, plain.0, le, e)))
    ∙ none_below all cell.property cells property n plain.1.1 (omega (arith, plain.0, le))

-- a cell of another property does not change what stands under a name
step_other : (all : List Property) (property : Option Property) (cell : Cell) (into : Members) (name : List ℕ) (n : ℕ) → IsPlainCell all property cell → property_number all name ≡ n → (cell.property ≡ n → ⊥)
    → get_member name (with_cell property cell.values into) ≡ get_member name into
step_other all None cell into name n plain is other = absurd plain
step_other all (Some property) cell into name n plain is other =
    ap (λ b. get_member name (if b then put property.name (cell_data property cell.values) into else into)) plain.1.0
    ∙ get_member-put_other name property.name (cell_data property cell.values) into (λ same. other (sym (number_named all cell.property property.name plain.0) ∙ (ap (property_number all) (sym same) ∙ is)))

untouched : (all : List Property) (low : ℕ) (cells : List Cell) (into : Members) (name : List ℕ) (n : ℕ) → ArePlainCells all low cells → property_number all name ≡ n → n ≤ low
    → get_member name (cells_members all cells into) ≡ get_member name into
untouched all low [] into name n plain is le = refl
untouched all low (cell ∷ cells) into name n plain is le =
    untouched all cell.property cells (with_cell (property_at all cell.property) cell.values into) name n plain.1.1 is (omega (arith, plain.0, le))
    ∙ step_other all (property_at all cell.property) cell into name n plain.1.0 is (λ e. omega (arith, plain.0, le, e))

-- under a property's name stands what its cell shows
looked_up : (all : List Property) (low : ℕ) (cells : List Cell) (into : Members) (property : Property) (n : ℕ) → ArePlainCells all low cells → property_at all n ≡ Some property → property_number all property.name ≡ n
    → get_member property.name into ≡ None → get_member property.name (cells_members all cells into) ≡ found_cell property n cells
looked_up all low [] into property n plain at is free = free
looked_up all low (cell ∷ cells) into property n plain at is free = by (looked_up all cell.property cells) (cell.property == n) refl
  where
    by : ((into : Members) (property : Property) (n : ℕ) → ArePlainCells all cell.property cells → property_at all n ≡ Some property → property_number all property.name ≡ n
        → get_member property.name into ≡ None → get_member property.name (cells_members all cells into) ≡ found_cell property n cells)
        → (b : Bool) → (cell.property == n) ≡ b
        → get_member property.name (cells_members all cells (with_cell (property_at all cell.property) cell.values into)) ≡ (if b then Some (cell_data property cell.values) else found_cell property n cells)
    by later true e =
        let same : cell.property ≡ n = eqb-true cell.property n e in
        let here : property_at all cell.property ≡ Some property = ap (property_at all) same ∙ at in
        let own : IsPlainCell all (Some property) cell = subst (λ o. IsPlainCell all o cell) here plain.1.0 in
        untouched all cell.property cells (with_cell (property_at all cell.property) cell.values into) property.name n plain.1.1 is (omega (arith, same))
        ∙ (ap (λ o. get_member property.name (with_cell o cell.values into)) here
        ∙ (ap (λ b. get_member property.name (if b then put property.name (cell_data property cell.values) into else into)) own.1.0
        ∙ get_member-put property.name (cell_data property cell.values) into))
    by later false e =
        later (with_cell (property_at all cell.property) cell.values into) property n plain.1.1 at is
        (step_other all (property_at all cell.property) cell into property.name n plain.1.0 is (eqb-false cell.property n e) ∙ free)

-- ---- rows

-- what is left of the properties stands behind the first so many
abbrev pub StandBehind : List Property → ℕ → List Property → Type 0
StandBehind all low properties = (k : ℕ) → slice_get properties k ≡ property_at all (low + 1 + k)

pub first_stands : (all : List Property) (low : ℕ) (property : Property) (properties : List Property) → StandBehind all low (property ∷ properties) → property_at all (low + 1) ≡ Some property
first_stands all low property properties at = ap (property_at all) (let e : low + 1 ≡ low + 1 + 0 = omega arith in e) ∙ sym (at 0)

pub others_stand : (all : List Property) (low : ℕ) (property : Property) (properties : List Property) → StandBehind all low (property ∷ properties) → StandBehind all (low + 1) properties
others_stand all low property properties at k = at (suc k) ∙ ap (property_at all) (let e : low + 1 + suc k ≡ low + 1 + 1 + k = omega arith in e)

pub all_stand : (all : List Property) → StandBehind all 0 all
all_stand all k =
    ap (λ b. if b then None else slice_get all k) (sym (ne_eqb (0 + 1 + k) 0 (λ e. omega (arith, e)))) ∙ ap (λ i. if (0 + 1 + k == 0) then None else slice_get all i) (let e : k ≡ 0 + 1 + k - 1 = omega arith in e)

-- under each property's name stands what its cell shows, for those behind the first so many
abbrev Shows : List Property → ℕ → List Cell → Data → Type 0
Shows all low cells d =
    (property : Property) (n : ℕ) → low < n → property_at all n ≡ Some property → property_number all property.name ≡ n → get property.name d ≡ found_cell property n cells

shows_less : (all : List Property) (low : ℕ) (cells : List Cell) (d : Data) → Shows all low cells d → Shows all (low + 1) cells d
shows_less all low cells d shows property n above at is = shows property n (omega (arith, above)) at is

shows_behind : (all : List Property) (low : ℕ) (cell : Cell) (cells : List Cell) (d : Data) → cell.property ≡ low + 1 → Shows all low (cell ∷ cells) d → Shows all (low + 1) cells d
shows_behind all low cell cells d e shows property n above at is =
    shows property n (omega (arith, above)) at is
    ∙ ap (λ b. if b then Some (cell_data property cell.values) else found_cell property n cells) (ne_eqb cell.property n (λ same. omega (arith, above, e, same)))

-- a property whose name is another's has no cell
cell_off : (all : List Property) (n : ℕ) (property : Property) (o : Option Data) → names_property all n property.name ≡ false → cell_in all n property o ≡ []
cell_off all n property None off = refl
cell_off all n property (Some d) off = ap (λ b. if b then cell_if n (values_in property d) else []) off

cell_on : (all : List Property) (n : ℕ) (property : Property) (values : List Value) → names_property all n property.name ≡ true → fits_property property values ≡ true → AllByRecursion IsHeld values
    → cell_in all n property (Some (cell_data property values)) ≡ record { property = n; values = values } ∷ []
cell_on all n property values on fit h = ap (λ b. if b then cell_if n (values_in property (cell_data property values)) else []) on ∙ cell_again n property values fit h

-- cells that lie behind the next number too
lie_behind : (all : List Property) (low : ℕ) (cell : Cell) (cells : List Cell) → ArePlainCells all low (cell ∷ cells) → (cell.property ≡ low + 1 → ⊥) → ArePlainCells all (low + 1) (cell ∷ cells)
lie_behind all low cell cells plain other = (above cell.property plain.0 other, plain.1)
  where
    above : (n : ℕ) → low < n → (n ≡ low + 1 → ⊥) → low + 1 < n
    above n less not_next = elim (cases_lt (low + 1) n) [ inl more ↦ more | inr le ↦ absurd (not_next (omega (arith, less, le))) ]

no_more : (all : List Property) (low : ℕ) (cells : List Cell) → StandBehind all low [] → ArePlainCells all low cells → [] ≡ cells
no_more all low [] at plain = refl
no_more all low (cell ∷ cells) at plain =
    let e : low + 1 + (cell.property - (low + 1)) ≡ cell.property = omega (arith, plain.0) in
    let none : property_at all cell.property ≡ None = ap (property_at all) (sym e) ∙ sym (at (cell.property - (low + 1))) in
    absurd (subst (λ o. IsPlainCell all o cell) none plain.1.0)

abbrev Rest : List Property → ℕ → List Property → Data → Type 0
Rest all low properties d = (cells : List Cell) → ArePlainCells all (low + 1) cells → Shows all (low + 1) cells d → cells_in all (low + 1 + 1) properties d ≡ cells

module _ (all : List Property) (low : ℕ) (property : Property) (properties : List Property) (d : Data) (here : property_at all (low + 1) ≡ Some property) (rest : Rest all low properties d) where
  absent : (cells : List Cell) → cell_in all (low + 1) property (get property.name d) ≡ [] → ArePlainCells all (low + 1) cells → Shows all (low + 1) cells d
      → cell_in all (low + 1) property (get property.name d) ++ cells_in all (low + 1 + 1) properties d ≡ cells
  absent cells none plain shows = ap (λ c. c ++ cells_in all (low + 1 + 1) properties d) none ∙ rest cells plain shows

  present : (cell : Cell) (cells : List Cell) → cell.property ≡ low + 1 → names_property all (low + 1) property.name ≡ true → ArePlainCells all low (cell ∷ cells) → Shows all low (cell ∷ cells) d
      → cell_in all (low + 1) property (get property.name d) ++ cells_in all (low + 1 + 1) properties d ≡ cell ∷ cells
  present cell cells e on plain shows =
      let own : IsPlainCell all (Some property) cell = subst (λ o. IsPlainCell all o cell) (ap (property_at all) e ∙ here) plain.1.0 in
      let told : get property.name d ≡ Some (cell_data property cell.values) =
      shows property (low + 1) (omega arith) here (number_named all (low + 1) property.name on)
      ∙ ap (λ b. if b then Some (cell_data property cell.values) else found_cell property (low + 1) cells) (eq-eqb cell.property (low + 1) e) in
      let made : cell_in all (low + 1) property (get property.name d) ≡ cell ∷ [] =
      ap (cell_in all (low + 1) property) told ∙ (cell_on all (low + 1) property cell.values on own.1.0 own.1.1 ∙ ap (λ n. record { property = n; values = cell.values } ∷ []) (sym e)) in
      ap (λ c. c ++ cells_in all (low + 1 + 1) properties d) made
      ∙ ap (λ cs. cell ∷ cs) (rest cells (subst (λ n. ArePlainCells all n cells) e plain.1.1) (shows_behind all low cell cells d e shows))

  reached : (cells : List Cell) → names_property all (low + 1) property.name ≡ true → ArePlainCells all low cells → Shows all low cells d
      → cell_in all (low + 1) property (get property.name d) ++ cells_in all (low + 1 + 1) properties d ≡ cells
  reached [] on plain shows =
      absent [] (ap (cell_in all (low + 1) property) (shows property (low + 1) (omega arith) here (number_named all (low + 1) property.name on))) tt (shows_less all low [] d shows)
  reached (cell ∷ cells) on plain shows = elim (cases_eq cell.property (low + 1)) [
    | inl e ↦ present cell cells e on plain shows
    | inr other ↦
        let behind = lie_behind all low cell cells plain other in
        let none : get property.name d ≡ None =
        shows property (low + 1) (omega arith) here (number_named all (low + 1) property.name on) ∙ none_below all (low + 1) (cell ∷ cells) property (low + 1) behind (omega arith) in
        absent (cell ∷ cells) (ap (cell_in all (low + 1) property) none) behind (shows_less all low (cell ∷ cells) d shows)
  ]

  passed : (cells : List Cell) → names_property all (low + 1) property.name ≡ false → ArePlainCells all low cells → ArePlainCells all (low + 1) cells
  passed [] off plain = tt
  passed (cell ∷ cells) off plain =
      lie_behind all low cell cells plain (λ e.
      let own : IsPlainCell all (Some property) cell = subst (λ o. IsPlainCell all o cell) (ap (property_at all) e ∙ here) plain.1.0 in
      true≢false (sym own.0 ∙ (ap (λ n. names_property all n property.name) e ∙ off)))

  step_again : (b : Bool) → names_property all (low + 1) property.name ≡ b → (cells : List Cell) → ArePlainCells all low cells → Shows all low cells d
      → cell_in all (low + 1) property (get property.name d) ++ cells_in all (low + 1 + 1) properties d ≡ cells
  step_again true on cells plain shows = reached cells on plain shows
  step_again false off cells plain shows = absent cells (cell_off all (low + 1) property (get property.name d) off) (passed cells off plain) (shows_less all low cells d shows)

cells_again : (all : List Property) (low : ℕ) (properties : List Property) (cells : List Cell) (d : Data) → StandBehind all low properties → ArePlainCells all low cells → Shows all low cells d
    → cells_in all (low + 1) properties d ≡ cells
cells_again all low [] cells d at plain shows = no_more all low cells at plain
cells_again all low (property ∷ properties) cells d at plain shows =
    step_again all low property properties d (first_stands all low property properties at)
    (λ more fit shown. cells_again all (low + 1) properties more d (others_stand all low property properties at) fit shown)
    (names_property all (low + 1) property.name) refl cells plain shows

row_again : (all : List Property) (cells : List Cell) → ArePlainCells all 0 cells → cells_in all 1 all (object (cells_members all cells no_members)) ≡ cells
row_again all cells plain =
    cells_again all 0 all cells (object (cells_members all cells no_members)) (all_stand all) plain
    (λ property n above at is. looked_up all 0 cells no_members property n plain at is refl)

-- ---- rows with their tables

table_named : (schema : Schema) (n : ℕ) (table : Table) → names_table schema.tables n table.name ≡ true → table_number schema.tables (text_in (string table.name)) ≡ n
table_named schema n table h =
    let parts = and_parts (is_utf8 table.name) (table_number schema.tables table.name == n) h in
    ap (λ b. table_number schema.tables (if b then table.name else [])) parts.0 ∙ eqb-true (table_number schema.tables table.name) n parts.1

shown_again : (schema : Schema) (shown : Option Shown) → IsPlainShown schema shown → shown_in schema (shown_data schema shown) ≡ shown
shown_again schema None plain = refl
shown_again schema (Some shown) plain = by (table_at schema.tables shown.table) refl plain
  where
    by : (o : Option Table) → table_at schema.tables shown.table ≡ o → ArePlainIn schema shown.table o (shown.row).cells
        → shown_by schema (table_number schema.tables (text_in (string (name_of o)))) (object (cells_members (properties_of o) (shown.row).cells no_members)) ≡ Some shown
    by None e fit = absurd fit
    by (Some table) e fit =
        let row = object (cells_members table.properties (shown.row).cells no_members) in
        ap (λ n. shown_by schema n row) (table_named schema shown.table table fit.0)
        ∙ (ap (λ o. shown_at shown.table o row) e
        ∙ ap (λ cs. Some (record { table = shown.table; row = record { cells = cs } })) (row_again table.properties (shown.row).cells fit.1))

pub rows_again : (schema : Schema) (rows : List (Option Shown)) → ArePlainRows schema rows → rows_in schema (rows_data schema rows) ≡ rows
rows_again schema rows plain = each_again (shown_in schema) (shown_data schema) (IsPlainShown schema) (shown_again schema) rows plain

-- ---- finds

key_again : (ks : List Kind) (key : List Value) → HaveKinds ks key → values_by ks (items_of (map value_data key)) ≡ key
key_again [] [] h = refl
key_again [] (v ∷ key) h = absurd h
key_again (kind ∷ ks) [] h = absurd h
key_again (kind ∷ ks) (v ∷ key) h = ap₂ (λ y ys. y ∷ ys) (value_again kind v h.0 h.1.0) (key_again ks key h.1.1)

found_again : (schema : Schema) (found : Found) → IsPlainFound schema found → found_in schema (found_data schema found) ≡ found ∷ []
found_again schema found plain = by (table_at schema.tables found.table) refl plain.0 plain.1
  where
    by : (o : Option Table) → table_at schema.tables found.table ≡ o → ArePlainIn schema found.table o (found.stored).cells → IsPlainKey schema found.table o found.key
        → found_by schema (table_number schema.tables (text_in (string (name_of o)))) (values_data found.key) (object (cells_members (properties_of o) (found.stored).cells no_members)) ≡ found ∷ []
    by None e fit key = absurd fit
    by (Some table) e fit key =
        let row = object (cells_members table.properties (found.stored).cells no_members) in
        ap (λ n. found_by schema n (values_data found.key) row) (table_named schema found.table table fit.0)
        ∙ (ap (λ o. found_at schema found.table o (values_data found.key) row) e
        ∙ (ap (λ vs. record { table = found.table; key = vs; stored = record { cells = cells_in table.properties 1 table.properties row } } ∷ []) (key_again (key_kinds (shape_of schema found.table table)) found.key key)
        ∙ ap (λ cs. record { table = found.table; key = found.key; stored = record { cells = cs } } ∷ []) (row_again table.properties (found.stored).cells fit.1)))

pub finds_again : (schema : Schema) (finds : List Found) → ArePlainFinds schema finds → finds_in schema (finds_data schema finds) ≡ finds
finds_again schema [] plain = refl
finds_again schema (found ∷ finds) plain = ap₂ (λ a b. a ++ b) (found_again schema found plain.0) (finds_again schema finds plain.1)

-- ---- marks

mark_again : (mark : Mark) → IsHeldMark mark → mark_in (mark_data mark) ≡ mark
mark_again mark plain =
    ap (λ key. record { group = record { key = key }; position = record { 0 = up_to 18446744073709551615 (Some (mark.position).0) } }) (bytes_again (mark.group).key plain.0)
    ∙ ap (λ n. record { group = mark.group; position = record { 0 = n } }) (number_again 18446744073709551615 (mark.position).0 plain.1)

all_marks_again : (marks : List Mark) → AreHeldMarks marks → all_marks_in (marks_data marks) ≡ marks
all_marks_again marks plain = each_again mark_in mark_data IsHeldMark mark_again marks plain

pub marks_again : (marks : List Mark) → ArePlainMarks marks → marks_in (marks_data marks) ≡ marks
marks_again marks plain = ap (λ ms. marks_if (are_marks ms) ms) (all_marks_again marks plain.1) ∙ ap (λ b. marks_if b marks) plain.0

pub find_marks_again : (marks : List Mark) → ArePlainFindMarks marks → find_marks_in (marks_data marks) ≡ marks
find_marks_again marks plain = ap (λ ms. marks_if (are_marks ms || is_alone ms) ms) (all_marks_again marks plain.1) ∙ ap (λ b. marks_if b marks) plain.0

-- ---- results

word_again : (turn : Turn) → IsPlainTurn turn → text_in (string (turn_word turn)) ≡ turn_word turn
word_again (turns.OtherGroup item) fit = utf8 (codes "othergroup") (IsUtf8-are_ascii _ refl)
word_again (turns.BadRow item) fit = utf8 (codes "badrow") (IsUtf8-are_ascii _ refl)
word_again (turns.CheckFailed item) fit = utf8 (codes "check") (IsUtf8-are_ascii _ refl)
word_again (turns.NoRow item) fit = utf8 (codes "norow") (IsUtf8-are_ascii _ refl)
word_again (turns.Overflow item) fit = utf8 (codes "overflow") (IsUtf8-are_ascii _ refl)
word_again (turns.TooLarge bytes) fit = utf8 (codes "toolarge") (IsUtf8-are_ascii _ refl)
word_again turns.DiskFault fit = absurd fit
word_again (turns.Full n) fit = absurd fit
word_again (turns.BadRecord n) fit = absurd fit
word_again turns.NoMemory fit = absurd fit

turn_again : (turn : Turn) → IsPlainTurn turn → turn_named (turn_word turn) (number (unsigned (turn_number turn))) ≡ Some turn
turn_again (turns.OtherGroup item) fit = ap (λ n. Some (turns.OtherGroup n)) (number_again 4294967295 item fit)
turn_again (turns.BadRow item) fit = ap (λ n. Some (turns.BadRow n)) (number_again 4294967295 item fit)
turn_again (turns.CheckFailed item) fit = ap (λ n. Some (turns.CheckFailed n)) (number_again 4294967295 item fit)
turn_again (turns.NoRow item) fit = ap (λ n. Some (turns.NoRow n)) (number_again 4294967295 item fit)
turn_again (turns.Overflow item) fit = ap (λ n. Some (turns.Overflow n)) (number_again 4294967295 item fit)
turn_again (turns.TooLarge bytes) fit = ap (λ n. Some (turns.TooLarge n)) (number_again 18446744073709551615 bytes fit)
turn_again turns.DiskFault fit = absurd fit
turn_again (turns.Full n) fit = absurd fit
turn_again (turns.BadRecord n) fit = absurd fit
turn_again turns.NoMemory fit = absurd fit

result_again : (schema : Schema) (result : Result (List (Option Shown)) Turn) → IsPlainResult schema result → result_in schema (result_data schema result) ≡ result
result_again schema (Ok replies) plain = ap Ok (rows_again schema replies plain)
result_again schema (Err turn) plain =
    ap (λ w. turned_or_none (turn_named w (number (unsigned (turn_number turn))))) (word_again turn plain) ∙ ap turned_or_none (turn_again turn plain)

pub results_again : (schema : Schema) (results : List (Result (List (Option Shown)) Turn)) → ArePlainResults schema results → results_in schema (results_data schema results) ≡ results
results_again schema results plain = each_again (result_in schema) (result_data schema) (IsPlainResult schema) (result_again schema) results plain
