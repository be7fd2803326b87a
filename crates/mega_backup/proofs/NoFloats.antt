-- What a line shows as JSON has no float in it.
use Rattle.std.proofs.Common.{◌≡◌, ℕ, ◌||◌, pos, negsuc, List, [], ◌∷◌, map, Bool, true, false, Option, Some, None, refl, Ordering, Less, Equal, Greater, nat_cmp}
use Rattle.std.proofs.lemmas.Bool.{or_parts}
use Rattle.std.specs.Ordering.{match_ordering}
use Rattle.std.specs.Cmp.Lexicographic.{slice_cmp}
use Rattle.serde_json.specs.Data.{Data, array, Members, no_members, member, put}
use Rattle.serde_json.specs.View.{items_of}
use Rattle.serde_json.specs.Written.{has_float, members_have_float}
use Rattle.mega_base.specs.declared.values.Value.{Value}
use Rattle.mega_base.specs.declared.values.Value.TheVariants.{Int32, Int64, Bool as Truth, Str, Raw}
use Rattle.mega_base.specs.declared.values.Cell.{Cell}
use Rattle.mega_base.specs.declared.values.Row.{Row}
use Rattle.mega_syntax.specs.declared.need.Need.{Need}
use Rattle.mega_syntax.specs.declared.need.Need.TheVariants.{Required, Optional, Repeated}
use Rattle.mega_schema.specs.declared.schema.Property.{Property}
use Rattle.mega_schema.specs.declared.schema.Table.{Table}
use Rattle.mega_schema.specs.declared.schema.Schema.{Schema}
use Rattle.mega_index.specs.Fits.{numbered}
use Rattle.mega_backup.specs.Spelling.{value_data, cell_data, with_cell, cells_members, properties_of, row_data, group_data, root_number, root_values}

neither : (a b : Bool) → a ≡ false → b ≡ false → (a || b) ≡ false
neither false b e h = h
neither true b e h = absurd (cc)

value : (v : Value) → has_float (value_data v) ≡ false
value (Int32 (pos n)) = refl
value (Int32 (negsuc n)) = refl
value (Int64 (pos n)) = refl
value (Int64 (negsuc n)) = refl
value (Truth b) = refl
value (Str text) = refl
value (Raw bytes) = refl

mapped : (xs : List Value) → has_float (array (items_of (map value_data xs))) ≡ false
mapped [] = refl
mapped (x ∷ xs) = neither (has_float (value_data x)) _ (value x) (mapped xs)

put_at : (o : Ordering) (k l : List ℕ) (d e : Data) (ms : Members) → has_float d ≡ false → (has_float e || members_have_float ms) ≡ false → members_have_float (put k d ms) ≡ false
    → members_have_float (match_ordering o (member k d (member l e ms)) (member l d ms) (member l e (put k d ms))) ≡ false
put_at Less k l d e ms f g h = neither (has_float d) _ f g
put_at Equal k l d e ms f g h = neither (has_float d) _ f (or_parts (has_float e) _ g).1
put_at Greater k l d e ms f g h = neither (has_float e) _ (or_parts (has_float e) _ g).0 h

put_in : (k : List ℕ) (d : Data) (ms : Members) → has_float d ≡ false → members_have_float ms ≡ false → members_have_float (put k d ms) ≡ false
put_in k d no_members f g = neither (has_float d) false f refl
put_in k d (member l e ms) f g = put_at (slice_cmp nat_cmp k l) k l d e ms f g (put_in k d ms f (or_parts (has_float e) _ g).1)

cell : (need : Need) (values : List Value) → has_float (cell_data need values) ≡ false
cell need [] = refl
cell Repeated (v ∷ values) = mapped (v ∷ values)
cell Required (v ∷ values) = value v
cell Optional (v ∷ values) = value v

with_one : (property : Option Property) (values : List Value) (into : Members) → members_have_float into ≡ false → members_have_float (with_cell property values into) ≡ false
with_one None values into f = f
with_one (Some property) values into f = put_in property.name (cell_data property.need values) into (cell property.need values) f

cells : (properties : List Property) (cs : List Cell) (into : Members) → members_have_float into ≡ false → members_have_float (cells_members properties cs into) ≡ false
cells properties [] into f = f
cells properties (c ∷ cs) into f = cells properties cs (with_cell (numbered properties c.property) c.values into) (with_one (numbered properties c.property) c.values into f)

pub row : (table : Option Table) (one : Row) → has_float (row_data table one) ≡ false
row table one = cells (properties_of table) one.cells no_members refl

pub group : (s : Schema) (key : List ℕ) → has_float (group_data s key) ≡ false
group s key = neither (has_float (array (items_of (map value_data (root_values s (root_number key) (numbered s.tables (root_number key)) key))))) false (mapped (root_values s (root_number key) (numbered s.tables (root_number key)) key)) refl
