-- What a transcript shows as JSON has no float in it.
use Rattle.std.proofs.Common.{◌≡◌, ℕ, ◌||◌, pos, negsuc, List, [], ◌∷◌, map, Bool, true, false, if◌then◌else◌, Option, Some, None, Ok, Err, refl, Ordering, Less, Equal, Greater, nat_cmp}
use Rattle.std.proofs.lemmas.Bool.{or_parts}
use Rattle.std.specs.Ordering.{match_ordering}
use Rattle.std.specs.Cmp.Lexicographic.{slice_cmp}
use Rattle.serde_json.specs.Data.{Data, array, Members, no_members, member, put}
use Rattle.serde_json.specs.View.{items_of}
use Rattle.serde_json.specs.Written.{has_float, members_have_float}
use Rattle.mega_base.specs.declared.values.Value.{Value}
use Rattle.mega_base.specs.declared.values.Value.TheVariants.{Int32, Int64, Bool as Truth, Str, Raw}
use Rattle.mega_base.specs.declared.values.Cell.{Cell}
use Rattle.mega_schema.specs.declared.schema.Property.{Property}
use Rattle.mega_schema.specs.declared.schema.Schema.{Schema}
use Rattle.mega_schema.specs.Lookup.{property_at, is_repeated}
use Rattle.mega_schema.specs.Shaping.{table_at}
use Rattle.mega_outcome.specs.of_index.declared.found.Found.{Found}
use Rattle.mega_outcome.specs.declared.answer.Shown.{Shown}
use Rattle.mega_outcome.specs.declared.answer.Mark.{Mark}
use Rattle.mega_outcome.specs.declared.answer.Turn.{Turn}
use Rattle.mega_transcript.specs.Rows.{value_data, fits_property, cell_data, with_cell, cells_members, properties_of, shown_data, found_data, mark_data}
use Rattle.mega_transcript.specs.Answers.{result_data}
use Rattle.std.specs.Prelude.{Result}

neither : (a b : Bool) → a ≡ false → b ≡ false → (a || b) ≡ false
neither false b e h = h
neither true b e h = e

pub value : (v : Value) → has_float (value_data v) ≡ false
value (Int32 (pos n)) = refl
value (Int32 (negsuc n)) = refl
value (Int64 (pos n)) = refl
value (Int64 (negsuc n)) = refl
value (Truth b) = refl
value (Str text) = refl
value (Raw bytes) = refl

pub mapped : {A : Type 0} (f : A → Data) → ((x : A) → has_float (f x) ≡ false) → (xs : List A) → has_float (array (items_of (map f xs))) ≡ false
mapped f each [] = refl
mapped f each (x ∷ xs) = neither (has_float (f x)) _ (each x) (mapped f each xs)

-- what is put has none
put_at : (o : Ordering) (k l : List ℕ) (d e : Data) (ms : Members) → has_float d ≡ false → (has_float e || members_have_float ms) ≡ false → members_have_float (put k d ms) ≡ false
    → members_have_float (match_ordering o (member k d (member l e ms)) (member l d ms) (member l e (put k d ms))) ≡ false
put_at Less k l d e ms f g h = neither (has_float d) _ f g
put_at Equal k l d e ms f g h = neither (has_float d) _ f (or_parts (has_float e) _ g).1
put_at Greater k l d e ms f g h = neither (has_float e) _ (or_parts (has_float e) _ g).0 h

pub put_in : (k : List ℕ) (d : Data) (ms : Members) → has_float d ≡ false → members_have_float ms ≡ false → members_have_float (put k d ms) ≡ false
put_in k d no_members f g = neither (has_float d) false f refl
put_in k d (member l e ms) f g = put_at (slice_cmp nat_cmp k l) k l d e ms f g (put_in k d ms f (or_parts (has_float e) _ g).1)

cell_either : (b : Bool) (many one : Data) → has_float many ≡ false → has_float one ≡ false → has_float (if b then many else one) ≡ false
cell_either true many one f g = f
cell_either false many one f g = g

cell : (property : Property) (values : List Value) → has_float (cell_data property values) ≡ false
cell property [] = refl
cell property (v ∷ values) = cell_either (is_repeated property.need) _ _ (mapped value_data value (v ∷ values)) (value v)

with_either : (b : Bool) (more into : Members) → members_have_float more ≡ false → members_have_float into ≡ false → members_have_float (if b then more else into) ≡ false
with_either true more into f g = f
with_either false more into f g = g

with_one : (property : Option Property) (values : List Value) (into : Members) → members_have_float into ≡ false → members_have_float (with_cell property values into) ≡ false
with_one None values into f = f
with_one (Some property) values into f = with_either (fits_property property values) _ _ (put_in property.name (cell_data property values) into (cell property values) f) f

pub cells : (properties : List Property) (cs : List Cell) (into : Members) → members_have_float into ≡ false → members_have_float (cells_members properties cs into) ≡ false
cells properties [] into f = f
cells properties (c ∷ cs) into f = cells properties cs (with_cell (property_at properties c.property) c.values into) (with_one (property_at properties c.property) c.values into f)

pub shown : (schema : Schema) (s : Option Shown) → has_float (shown_data schema s) ≡ false
shown schema None = refl
shown schema (Some s) = neither (members_have_float (cells_members (properties_of (table_at schema.tables s.table)) s.row.cells no_members)) false (cells (properties_of (table_at schema.tables s.table)) s.row.cells no_members refl) refl

pub found : (schema : Schema) (f : Found) → has_float (found_data schema f) ≡ false
found schema f =
    neither (has_float (array (items_of (map value_data f.key)))) _ (mapped value_data value f.key)
    (neither (members_have_float (cells_members (properties_of (table_at schema.tables f.table)) f.stored.cells no_members)) false (cells (properties_of (table_at schema.tables f.table)) f.stored.cells no_members refl) refl)

pub mark : (schema : Schema) (m : Mark) → has_float (mark_data m) ≡ false
mark schema m = refl

pub result : (schema : Schema) (r : Result (List (Option Shown)) Turn) → has_float (result_data schema r) ≡ false
result schema (Ok replies) = neither (has_float (array (items_of (map (shown_data schema) replies)))) false (mapped (shown_data schema) (shown schema) replies) refl
result schema (Err turn) = refl
