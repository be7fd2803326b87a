-- Values by the kinds of their places, names by their numbers in a schema, and groups. What has no fault is read exactly; what
-- has one is read as something, and is not used.
use Rattle.std.specs.Prelude.{ℕ, ◌^◌, ℤ, pos, Bool, if◌then◌else◌, nat_lt, List, [], ◌∷◌, Option, Some, None, option_and_then, unwrap_or, Result, Ok, Err}
use Rattle.hex.specs.Hex.{decode_of}
use Rattle.serde_json.specs.Data.{Data, Items, no_items, item}
use Rattle.serde_json.specs.Find.{as_bool, as_str, as_number, as_array, as_i64, as_u64}
use Rattle.mega_base.specs.declared.names.GroupId.{GroupId}
use Rattle.mega_base.specs.declared.values.Kind.{Kind}
use Rattle.mega_base.specs.declared.values.Kind.TheVariants as kinds
use Rattle.mega_base.specs.declared.values.Value.{Value}
use Rattle.mega_base.specs.declared.values.Value.TheVariants.{Int32, Int64, Bool as Truth, Str, Raw}
use Rattle.mega_base.specs.Values.{is_in_range}
pub use Rattle.mega_base.specs.ListWords.{items_or_none as decoded}
use Rattle.mega_schema.specs.declared.schema.Property.{Property}
use Rattle.mega_schema.specs.declared.schema.Table.{Table}
use Rattle.mega_schema.specs.declared.schema.Schema.{Schema}
use Rattle.mega_schema.specs.Lookup.{is_root_table, table_number as number_among}
pub use Rattle.mega_schema.specs.Lookup.{number_of_place, properties_in as properties_of, property_number}
use Rattle.mega_schema.specs.Rules.{kind_at}
use Rattle.mega_schema.specs.Shaping.{table_at, shape_of}
use Rattle.mega_keys.specs.declared.fault.KeyFault.{KeyFault}
use Rattle.mega_keys.specs.Answers.{group_key_of}
use Rattle.mega_schedule.specs.Fields.{is_hex, pair_of}

-- a field's text, number, signed number or list, or none where it has none
abbrev pub text_in : Option Data → List ℕ
text_in o = unwrap_or (option_and_then as_str o) []

abbrev pub number_in : Option Data → ℕ
number_in o = unwrap_or (option_and_then as_u64 (option_and_then as_number o)) 0

abbrev pub whole_in : Option Data → ℤ
whole_in o = unwrap_or (option_and_then as_i64 (option_and_then as_number o)) (pos 0)

abbrev pub list_in : Option Data → Items
list_in o = unwrap_or (option_and_then as_array o) no_items

-- a number that fits into a byte
abbrev pub byte_in : Option Data → ℕ
byte_in o = if nat_lt (number_in o) 256 then number_in o else 0

-- ---- values

abbrev pub is_int32 : ℤ → Bool
is_int32 z = is_in_range (2 ^ 31) z

-- an int32 where the place has that kind and the number fits, else an int64
abbrev pub number_value : Option Kind → ℤ → Value
number_value (Some kinds.Int32) z = if is_int32 z then Int32 z else Int64 z
number_value _ z = Int64 z

abbrev pub bytes_of : List ℕ → List ℕ
bytes_of s = decoded (decode_of s)

-- bytes where the place has that kind and the text is hex, else a text
abbrev pub text_value : Option Kind → List ℕ → Value
text_value (Some kinds.Raw) s = if is_hex s then Raw (bytes_of s) else Str s
text_value _ s = Str s

abbrev pub text_or_number : Option Kind → Option (List ℕ) → ℤ → Value
text_or_number kind (Some s) z = text_value kind s
text_or_number kind None z = number_value kind z

abbrev pub truth_or : Option Bool → Value → Value
truth_or (Some b) value = Truth b
truth_or None value = value

-- the value in a place of this kind
abbrev pub value_of : Option Kind → Data → Value
value_of kind d = truth_or (as_bool d) (text_or_number kind (as_str d) (whole_in (Some d)))

-- the kind of the first place, and the places behind it
abbrev pub first_kind : List Property → List ℕ → Option Kind
first_kind properties [] = None
first_kind properties (n ∷ ns) = kind_at properties n

abbrev pub others : List ℕ → List ℕ
others [] = []
others (n ∷ ns) = ns

-- values in the places of these properties; those behind them have no kind
abbrev pub values_at : List Property → List ℕ → Items → List Value
values_at properties places no_items = []
values_at properties places (item d ds) = value_of (first_kind properties places) d ∷ values_at properties (others places) ds

-- ---- names

abbrev pub table_number : Schema → List ℕ → ℕ
table_number schema name = number_among schema.tables name

abbrev pub primary_of : Option Table → List ℕ
primary_of None = []
primary_of (Some table) = table.primary

-- the values of a key of the table
abbrev pub key_in : Option Table → Items → List Value
key_in table ds = values_at (properties_of table) (primary_of table) ds

-- ---- groups

abbrev pub group_or_none : Result (List ℕ) KeyFault → GroupId
group_or_none (Ok key) = record { key = key }
group_or_none (Err fault) = record { key = [] }

abbrev pub no_group : GroupId
no_group = record { key = [] }

-- the group of a root with these key values, or the empty one where there is none
abbrev pub group_in : Schema → ℕ → Option Table → Items → GroupId
group_in schema n None ds = no_group
group_in schema n (Some t) ds = if is_root_table t then group_or_none (group_key_of (shape_of schema n t) (key_in (Some t) ds)) else no_group

abbrev pub group_named : Schema → List ℕ → Items → GroupId
group_named schema name ds = group_in schema (table_number schema name) (table_at schema.tables (table_number schema name)) ds

abbrev pub group_pair : Schema → Option (Data × Data) → GroupId
group_pair schema None = no_group
group_pair schema (Some pair) = group_named schema (text_in (Some pair.0)) (list_in (Some pair.1))

abbrev pub group_of : Schema → Option Data → GroupId
group_of schema o = group_pair schema (pair_of (list_in o))
