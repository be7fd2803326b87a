-- How rows, finds, marks and results are read from JSON, by the names of a schema. What is the JSON of no plain one is read as
-- another, whose line differs.
use Rattle.std.specs.Prelude.{ℕ, ◌+◌, ◌^◌, ◌||◌, ℤ, pos, negsuc, Bool, true, false, if◌then◌else◌, nat_lt, nat_le, List, [], ◌∷◌, ◌++◌, codes, Option, Some, None, option_and_then, unwrap_or, Result, Ok, Err}
use Rattle.std.specs.Result.{result_ok}
use Rattle.std.specs.Str.{is_utf8}
use Rattle.hex.specs.Hex.{decode_of}
use Rattle.serde_json.specs.Data.{Data, null, Items, no_items, item}
use Rattle.serde_json.specs.Find.{get, as_bool, as_number, as_str, as_array, as_u64, as_i64}
use Rattle.mega_base.specs.declared.values.Kind.{Kind}
use Rattle.mega_base.specs.declared.values.Kind.TheVariants as kinds
use Rattle.mega_base.specs.declared.values.Value.{Value}
use Rattle.mega_base.specs.declared.values.Value.TheVariants.{Int32, Int64, Bool as Truth, Str, Raw}
use Rattle.mega_base.specs.declared.values.Cell.{Cell}
use Rattle.mega_keys.specs.Fit.{key_kinds}
use Rattle.mega_syntax.specs.Names.{same}
use Rattle.mega_schema.specs.declared.schema.Property.{Property}
use Rattle.mega_schema.specs.declared.schema.Table.{Table}
use Rattle.mega_schema.specs.declared.schema.Schema.{Schema}
use Rattle.mega_schema.specs.Lookup.{is_repeated}
use Rattle.mega_schema.specs.Shaping.{table_at, shape_of}
use Rattle.mega_outcome.specs.of_index.declared.found.Found.{Found}
use Rattle.mega_outcome.specs.declared.answer.Shown.{Shown}
use Rattle.mega_outcome.specs.declared.answer.Mark.{Mark}
use Rattle.mega_outcome.specs.declared.answer.Turn.{Turn}
use Rattle.mega_outcome.specs.declared.answer.Turn.TheVariants.{OtherGroup, BadRow, CheckFailed, NoRow, Overflow, TooLarge}
use Rattle.mega_transcript.specs.Named.{table_number, names_property}
use Rattle.mega_transcript.specs.PlainRows.{are_marks, is_alone}

-- ---- values

-- a number up to the greatest, or 0
abbrev pub up_to : ℕ → Option ℕ → ℕ
up_to most None = 0
up_to most (Some n) = if nat_le n most then n else 0

abbrev pub number_in : ℕ → Data → ℕ
number_in most d = up_to most (option_and_then as_u64 (as_number d))

-- a signed number of so many bits, or 0
abbrev pub is_int32 : ℤ → Bool
is_int32 (pos n) = nat_lt n (2 ^ 31)
is_int32 (negsuc n) = nat_lt n (2 ^ 31)

abbrev pub int32_of : Option ℤ → ℤ
int32_of None = pos 0
int32_of (Some z) = if is_int32 z then z else pos 0

abbrev pub int32_in : Data → ℤ
int32_in d = int32_of (option_and_then as_i64 (as_number d))

abbrev pub is_int64 : ℤ → Bool
is_int64 (pos n) = nat_lt n (2 ^ 63)
is_int64 (negsuc n) = nat_lt n (2 ^ 63)

abbrev pub int64_of : Option ℤ → ℤ
int64_of None = pos 0
int64_of (Some z) = if is_int64 z then z else pos 0

abbrev pub int64_in : Data → ℤ
int64_in d = int64_of (option_and_then as_i64 (as_number d))

abbrev pub truth_in : Data → Bool
truth_in d = unwrap_or (as_bool d) false

-- a text in UTF-8, or none
abbrev pub utf8_of : Option (List ℕ) → List ℕ
utf8_of None = []
utf8_of (Some s) = if is_utf8 s then s else []

abbrev pub text_in : Data → List ℕ
text_in d = utf8_of (as_str d)

-- the bytes of a text in hex, or none
abbrev pub bytes_in : Data → List ℕ
bytes_in d = unwrap_or (result_ok (decode_of (text_in d))) []

-- the items of a list, or none
abbrev pub list_in : Data → Items
list_in d = unwrap_or (as_array d) no_items

abbrev pub each_in : {A : Type 0} → (Data → A) → Items → List A
each_in read no_items = []
each_in read (item d ds) = read d ∷ each_in read ds

abbrev pub value_in : Kind → Data → Value
value_in kinds.Int32 d = Int32 (int32_in d)
value_in kinds.Int64 d = Int64 (int64_in d)
value_in kinds.Bool d = Truth (truth_in d)
value_in kinds.Str d = Str (text_in d)
value_in kinds.Raw d = Raw (bytes_in d)

-- ---- rows

-- one value, or those of a repeated property in a list
abbrev pub values_in : Property → Data → List Value
values_in property d = if is_repeated property.need then each_in (value_in property.kind) (list_in d) else value_in property.kind d ∷ []

-- a cell where there are values
abbrev pub cell_if : ℕ → List Value → List Cell
cell_if n [] = []
cell_if n (value ∷ values) = record { property = n; values = value ∷ values } ∷ []

-- the cell of the property with this number, where it is the one that its name names
abbrev pub cell_in : List Property → ℕ → Property → Option Data → List Cell
cell_in all n property None = []
cell_in all n property (Some d) = if names_property all n property.name then cell_if n (values_in property d) else []

-- the cells of the properties that are there, of those numbered from n on
abbrev pub cells_in : List Property → ℕ → List Property → Data → List Cell
cells_in all n [] d = []
cells_in all n (property ∷ properties) d = cell_in all n property (get property.name d) ++ cells_in all (n + 1) properties d

-- ---- lists of two and three

abbrev pub pair_of : Items → Option (Data × Data)
pair_of no_items = None
pair_of (item first no_items) = None
pair_of (item first (item second no_items)) = Some (first, second)
pair_of (item first (item second (item d ds))) = None

abbrev pub triple_of : Items → Option (Data × (Data × Data))
triple_of no_items = None
triple_of (item first no_items) = None
triple_of (item first (item second no_items)) = None
triple_of (item first (item second (item third no_items))) = Some (first, (second, third))
triple_of (item first (item second (item third (item d ds)))) = None

-- ---- rows with their tables

abbrev pub shown_at : ℕ → Option Table → Data → Option Shown
shown_at n None d = None
shown_at n (Some table) d = Some (record { table = n; row = record { cells = cells_in table.properties 1 table.properties d } })

abbrev pub shown_by : Schema → ℕ → Data → Option Shown
shown_by schema n d = shown_at n (table_at schema.tables n) d

abbrev pub shown_of : Schema → Option (Data × Data) → Option Shown
shown_of schema None = None
shown_of schema (Some pair) = shown_by schema (table_number schema.tables (text_in pair.0)) pair.1

abbrev pub shown_in : Schema → Data → Option Shown
shown_in schema d = shown_of schema (pair_of (list_in d))

abbrev pub rows_in : Schema → Data → List (Option Shown)
rows_in schema d = each_in (shown_in schema) (list_in d)

-- ---- finds

abbrev pub first_or_null : Items → Data
first_or_null no_items = null
first_or_null (item d ds) = d

abbrev pub behind : Items → Items
behind no_items = no_items
behind (item d ds) = ds

-- a value of each kind, from a list
abbrev pub values_by : List Kind → Items → List Value
values_by [] ds = []
values_by (kind ∷ later) ds = value_in kind (first_or_null ds) ∷ values_by later (behind ds)

abbrev pub found_at : Schema → ℕ → Option Table → Data → Data → List Found
found_at schema n None key stored = []
found_at schema n (Some table) key stored =
    record { table = n; key = values_by (key_kinds (shape_of schema n table)) (list_in key); stored = record { cells = cells_in table.properties 1 table.properties stored } } ∷ []

abbrev pub found_by : Schema → ℕ → Data → Data → List Found
found_by schema n key stored = found_at schema n (table_at schema.tables n) key stored

abbrev pub found_of : Schema → Option (Data × (Data × Data)) → List Found
found_of schema None = []
found_of schema (Some parts) = found_by schema (table_number schema.tables (text_in parts.0)) (parts.1).0 (parts.1).1

abbrev pub found_in : Schema → Data → List Found
found_in schema d = found_of schema (triple_of (list_in d))

abbrev pub finds_of : Schema → Items → List Found
finds_of schema no_items = []
finds_of schema (item d ds) = found_in schema d ++ finds_of schema ds

abbrev pub finds_in : Schema → Data → List Found
finds_in schema d = finds_of schema (list_in d)

-- ---- marks

abbrev pub mark_of : Option (Data × Data) → Mark
mark_of None = record { group = record { key = [] }; position = record { 0 = 0 } }
mark_of (Some pair) = record { group = record { key = bytes_in pair.0 }; position = record { 0 = number_in 18446744073709551615 pair.1 } }

abbrev pub mark_in : Data → Mark
mark_in d = mark_of (pair_of (list_in d))

abbrev pub all_marks_in : Data → List Mark
all_marks_in d = each_in mark_in (list_in d)

-- marks that stand in order, or none
abbrev pub marks_if : Bool → List Mark → List Mark
marks_if true marks = marks
marks_if false marks = []

abbrev pub marks_in : Data → List Mark
marks_in d = marks_if (are_marks (all_marks_in d)) (all_marks_in d)

-- the same, or one mark alone
abbrev pub find_marks_in : Data → List Mark
find_marks_in d = marks_if (are_marks (all_marks_in d) || is_alone (all_marks_in d)) (all_marks_in d)

-- ---- results of a batch

-- the turn of this word, with its number
abbrev pub turn_named : List ℕ → Data → Option Turn
turn_named word d =
    if same word (codes "othergroup") then Some (OtherGroup (number_in 4294967295 d))
    else (if same word (codes "badrow") then Some (BadRow (number_in 4294967295 d))
    else (if same word (codes "check") then Some (CheckFailed (number_in 4294967295 d))
    else (if same word (codes "norow") then Some (NoRow (number_in 4294967295 d))
    else (if same word (codes "overflow") then Some (Overflow (number_in 4294967295 d))
    else (if same word (codes "toolarge") then Some (TooLarge (number_in 18446744073709551615 d)) else None)))))

abbrev pub turned_or_none : Option Turn → Result (List (Option Shown)) Turn
turned_or_none None = Ok []
turned_or_none (Some turn) = Err turn

abbrev pub committed_of : Schema → Option (Data × Data) → Result (List (Option Shown)) Turn
committed_of schema None = Ok []
committed_of schema (Some pair) = Ok (rows_in schema pair.1)

abbrev pub result_of : Schema → Items → Option (Data × (Data × Data)) → Result (List (Option Shown)) Turn
result_of schema ds None = committed_of schema (pair_of ds)
result_of schema ds (Some parts) = turned_or_none (turn_named (text_in (parts.1).0) (parts.1).1)

abbrev pub result_in : Schema → Data → Result (List (Option Shown)) Turn
result_in schema d = result_of schema (list_in d) (triple_of (list_in d))

abbrev pub results_in : Schema → Data → List (Result (List (Option Shown)) Turn)
results_in schema d = each_in (result_in schema) (list_in d)
