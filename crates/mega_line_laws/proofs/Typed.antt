-- What is read of a whole object keeps what the types of a request say.
use Rattle.std.proofs.Common.{◌≡◌, ℕ, ◌+◌, ◌^◌, ◌<◌, ◌≤◌, ◌==◌, cond, pos, negsuc, ℤ, Bool, true, false, Option, Some, None, List, [], ◌∷◌, ◌++◌, refl, ap, subst, arith, IsUtf8, Ordering, Less, Equal, Greater, nat_cmp}
use Rattle.std.specs.Prelude.{codes, is_some, nat_lt, option_and_then, position, unwrap_or, if◌then◌else◌, FitsSigned}
use Rattle.std.specs.Int.{w32, w64}
use Rattle.std.specs.Ordering.{match_ordering}
use Rattle.std.specs.Cmp.Lexicographic.{slice_cmp}
use Rattle.std.proofs.lemmas.Bool.Decides.{nat_tests}
use Rattle.std.proofs.lemmas.Str.{IsUtf8-nil}
use Rattle.serde_json.specs.Data.{Num, unsigned, negative, float, Data, null, boolean, number, string, array, object, Items, no_items, item, Members, no_members, member}
use Rattle.serde_json.specs.Find.{as_array, as_bool, as_i64, as_number, as_object, as_str, get, get_member}
use Rattle.mega_base.specs.declared.values.Cell.{Cell}
use Rattle.mega_base.specs.declared.values.Kind.{Kind}
use Rattle.mega_base.specs.declared.values.Kind.TheVariants as kinds
use Rattle.mega_base.specs.declared.values.Value.{Value}
use Rattle.mega_base.specs.declared.values.Value.TheVariants.{Int32, Int64, Bool as Truth, Str, Raw}
use Rattle.mega_entry.specs.declared.content.Send.{Send}
use Rattle.mega_schema.specs.declared.schema.Property.{Property}
use Rattle.mega_schema.specs.declared.schema.Schema.{Schema}
use Rattle.mega_outcome.specs.declared.request.Request.TheVariants.{Txn}
use Rattle.mega_outcome.specs.declared.transaction.Change.{Change}
use Rattle.mega_outcome.specs.declared.transaction.Change.TheVariants.{Put, Delete, Add}
use Rattle.mega_schedule.specs.Fields.{is_hex}
use Rattle.mega_schedule.specs.Values.{bytes_of, is_int32, list_in, number_of_place, number_value, properties_of, property_number, text_in, text_or_number, text_value, truth_or, value_of, whole_in}
use Rattle.mega_schedule.specs.Rows.{cell_if, cell_values, cells_in, each_in, field_values, known_cells, members_in, named_in, number_behind, property_in, put_row, row_of, send_of, table_in, transaction_of, unknown_cell, unknown_cells, write_of}
use Rattle.mega_format_laws.specs.Rounds.{Each}
use Rattle.mega_format_laws.specs.Requests.{IsChange, IsGiven, IsQueued, IsSpelled, IsTyped}
use Rattle.mega_json_laws.specs.Whole.{AreWholeItems, AreWholeMembers, IsWhole, IsWholeNumber}

-- ---- the parts of what is whole

abbrev pub IsWholeIf : Option Data → Type 0
IsWholeIf None = Unit {0}
IsWholeIf (Some d) = IsWhole d

member_whole : (k : List ℕ) (ms : Members) → AreWholeMembers ms → IsWholeIf (get_member k ms)
member_whole k no_members whole = tt
member_whole k (member l d ms) whole = go (slice_cmp nat_cmp k l) (member_whole k ms whole.1.1.1)
  where
    go : (o : Ordering) → IsWholeIf (get_member k ms) → IsWholeIf (match_ordering o (get_member k ms) (Some d) (get_member k ms))
    go Less more = more
    go Equal more = whole.1.0
    go Greater more = more

pub get_whole : (k : List ℕ) (d : Data) → IsWhole d → IsWholeIf (get k d)
get_whole k null whole = tt
get_whole k (boolean b) whole = tt
get_whole k (number n) whole = tt
get_whole k (string s) whole = tt
get_whole k (array ds) whole = tt
get_whole k (object ms) whole = member_whole k ms whole

list_whole : (o : Option Data) → IsWholeIf o → AreWholeItems (list_in o)
list_whole None whole = tt
list_whole (Some null) whole = tt
list_whole (Some (boolean b)) whole = tt
list_whole (Some (number n)) whole = tt
list_whole (Some (string s)) whole = tt
list_whole (Some (array ds)) whole = whole
list_whole (Some (object ms)) whole = tt

text_whole : (o : Option Data) → IsWholeIf o → IsUtf8 (text_in o)
text_whole None whole = IsUtf8-nil
text_whole (Some null) whole = IsUtf8-nil
text_whole (Some (boolean b)) whole = IsUtf8-nil
text_whole (Some (number n)) whole = IsUtf8-nil
text_whole (Some (string s)) whole = whole
text_whole (Some (array ds)) whole = IsUtf8-nil
text_whole (Some (object ms)) whole = IsUtf8-nil

each_read : {A : Type 0} (P : A → Type 0) (read : Data → A) (ds : Items) → ((d : Data) → IsWhole d → P (read d)) → AreWholeItems ds → Each P (each_in read ds)
each_read P read no_items reads whole = tt
each_read P read (item d ds) reads whole = (reads d whole.0, each_read P read ds reads whole.1)

each_join : {A : Type 0} (P : A → Type 0) (xs ys : List A) → Each P xs → Each P ys → Each P (xs ++ ys)
each_join P [] ys one two = two
each_join P (x ∷ xs) ys one two = (one.0, each_join P xs ys one.1 two)

-- ---- values

less : (m n : ℕ) → nat_lt m n ≡ true → m < n
less m n t = grind (arith, nat_tests)

either_spelled : (t : Bool) (one two : Value) → (t ≡ true → IsSpelled one) → IsSpelled two → IsSpelled (cond t one two)
either_spelled true one two first second = first refl
either_spelled false one two first second = second

int32_fits : (z : ℤ) → is_int32 z ≡ true → FitsSigned w32 z
int32_fits (pos n) e = record { sfits = less n (2 ^ 31) e }
int32_fits (negsuc n) e = record { sfits = less n (2 ^ 31) e }

number_spelled : (kind : Option Kind) (z : ℤ) → FitsSigned w64 z → IsSpelled (number_value kind z)
number_spelled (Some kinds.Int32) z fits = either_spelled (is_int32 z) (Int32 z) (Int64 z) (int32_fits z) fits
number_spelled (Some kinds.Int64) z fits = fits
number_spelled (Some kinds.Bool) z fits = fits
number_spelled (Some kinds.Str) z fits = fits
number_spelled (Some kinds.Raw) z fits = fits
number_spelled None z fits = fits

text_spelled : (kind : Option Kind) (s : List ℕ) → IsUtf8 s → IsSpelled (text_value kind s)
text_spelled (Some kinds.Raw) s fits = either_spelled (is_hex s) (Raw (bytes_of s)) (Str s) (λ t. tt) fits
text_spelled (Some kinds.Int32) s fits = fits
text_spelled (Some kinds.Int64) s fits = fits
text_spelled (Some kinds.Bool) s fits = fits
text_spelled (Some kinds.Str) s fits = fits
text_spelled None s fits = fits

zero_fits : FitsSigned w64 (pos 0)
zero_fits = record { sfits = omega arith }

whole_fits : (x : Num) → IsWholeNumber x → FitsSigned w64 (unwrap_or (as_i64 x) (pos 0))
whole_fits (unsigned n) whole = go (nat_lt n (2 ^ 63)) refl
  where
    go : (t : Bool) → nat_lt n (2 ^ 63) ≡ t → FitsSigned w64 (unwrap_or (if t then Some (pos n) else None) (pos 0))
    go true e = record { sfits = less n (2 ^ 63) e }
    go false e = zero_fits
whole_fits (negative (pos n)) whole = absurd whole
whole_fits (negative (negsuc n)) whole = record { sfits = whole }
whole_fits (float x) whole = zero_fits

pub value_spelled : (kind : Option Kind) (d : Data) → IsWhole d → IsSpelled (value_of kind d)
value_spelled kind null whole = number_spelled kind (pos 0) zero_fits
value_spelled kind (boolean b) whole = tt
value_spelled kind (number x) whole = number_spelled kind (unwrap_or (as_i64 x) (pos 0)) (whole_fits x whole)
value_spelled kind (string s) whole = text_spelled kind s whole
value_spelled kind (array ds) whole = number_spelled kind (pos 0) zero_fits
value_spelled kind (object ms) whole = number_spelled kind (pos 0) zero_fits

-- ---- cells

values_spelled : (kind : Option Kind) (d : Data) → IsWhole d → Each IsSpelled (cell_values kind d)
values_spelled kind null whole = (value_spelled kind null whole, tt)
values_spelled kind (boolean b) whole = (value_spelled kind (boolean b) whole, tt)
values_spelled kind (number x) whole = (value_spelled kind (number x) whole, tt)
values_spelled kind (string s) whole = (value_spelled kind (string s) whole, tt)
values_spelled kind (array ds) whole = each_read IsSpelled (value_of kind) ds (value_spelled kind) whole
values_spelled kind (object ms) whole = (value_spelled kind (object ms) whole, tt)

cell_given : (n : ℕ) (values : List Value) → n ≤ 255 → Each IsSpelled values → Each IsGiven (cell_if n values)
cell_given n [] small each = tt
cell_given n (value ∷ values) small each = ((small, each), tt)

unknown_given : (properties : List Property) (ms : Members) → AreWholeMembers ms → Each IsGiven (unknown_cells properties ms)
unknown_given properties no_members whole = tt
unknown_given properties (member name d ms) whole =
    each_join IsGiven (unknown_cell properties name d) (unknown_cells properties ms) (go (property_number properties name == 0)) (unknown_given properties ms whole.1.1.1)
  where
    go : (t : Bool) → Each IsGiven (if t then cell_if 0 (cell_values None d) else [])
    go true = cell_given 0 (cell_values None d) (omega arith) (values_spelled None d whole.1.0)
    go false = tt

behind_small : (n : ℕ) → number_behind n ≤ 255
behind_small n = go (nat_lt n 255) refl
  where
    go : (t : Bool) → nat_lt n 255 ≡ t → (if t then n + 1 else 255) ≤ 255
    go true e = let small = less n 255 e in omega (arith, small)
    go false e = omega arith

field_spelled : (kind : Option Kind) (o : Option Data) → IsWholeIf o → Each IsSpelled (field_values kind o)
field_spelled kind None whole = tt
field_spelled kind (Some d) whole = values_spelled kind d whole

known_given : (n : ℕ) (ps : List Property) (d : Data) → n ≤ 255 → IsWhole d → Each IsGiven (known_cells n ps d)
known_given n [] d small whole = tt
known_given n (p ∷ ps) d small whole =
    each_join IsGiven (cell_if n (field_values (Some p.kind) (get p.name d))) (known_cells (number_behind n) ps d)
    (cell_given n (field_values (Some p.kind) (get p.name d)) small (field_spelled (Some p.kind) (get p.name d) (get_whole p.name d whole))) (known_given (number_behind n) ps d (behind_small n) whole)

members_whole : (d : Data) → IsWhole d → AreWholeMembers (members_in d)
members_whole null whole = tt
members_whole (boolean b) whole = tt
members_whole (number n) whole = tt
members_whole (string s) whole = tt
members_whole (array ds) whole = tt
members_whole (object ms) whole = whole

cells_given : (properties : List Property) (o : Option Data) → IsWholeIf o → Each IsGiven (cells_in properties o)
cells_given properties None whole = tt
cells_given properties (Some d) whole =
    each_join IsGiven (unknown_cells properties (members_in d)) (known_cells 1 properties d) (unknown_given properties (members_in d) (members_whole d whole)) (known_given 1 properties d (omega arith) whole)

-- ---- transactions

change_typed : (schema : Schema) (d : Data) → IsWhole d → IsChange (write_of schema d)
change_typed schema d whole = go (is_some (get (codes "put") d)) (is_some (get (codes "delete") d))
  where
    go : (s t : Bool) → IsChange (if s then Put (table_in schema (get (codes "put") d)) (put_row schema d)
        else (if t then Delete (row_of schema (codes "delete") d)
        else Add (row_of schema (codes "add") d) (property_in schema (get (codes "add") d) (get (codes "property") d)) (whole_in (get (codes "by") d))))
    go true t = cells_given (properties_of (named_in schema (get (codes "put") d))) (get (codes "row") d) (get_whole (codes "row") d whole)
    go false true = tt
    go false false = tt

send_typed : (schema : Schema) (d : Data) → IsWhole d → IsQueued (send_of schema d)
send_typed schema d whole = text_whole (get (codes "queue") d) (get_whole (codes "queue") d whole)

pub transaction_typed : (schema : Schema) (group : Option Data) (d : Data) → IsWhole d → IsTyped (transaction_of schema group d)
transaction_typed schema group d whole = record {
  writes = each_read IsChange (write_of schema) (list_in (get (codes "writes") d)) (change_typed schema) (list_whole (get (codes "writes") d) (get_whole (codes "writes") d whole));
  sends = each_read IsQueued (send_of schema) (list_in (get (codes "sends") d)) (send_typed schema) (list_whole (get (codes "sends") d) (get_whole (codes "sends") d whole));
}

pub transactions_typed : (schema : Schema) (group : Option Data) (o : Option Data) → IsWholeIf o → Each IsTyped (each_in (transaction_of schema group) (list_in o))
transactions_typed schema group o whole = each_read IsTyped (transaction_of schema group) (list_in o) (transaction_typed schema group) (list_whole o whole)
