-- Looking things up by name.
use Rattle.std.specs.Prelude.{ℕ, ◌+◌, nat_lt, Bool, true, false, ◌||◌, List, [], ◌∷◌, codes, Option, Some, None, if◌then◌else◌, find, position}
use Rattle.std.specs.List.{list_any}
use Rattle.mega_base.specs.declared.values.Kind.{Kind}
use Rattle.mega_base.specs.declared.values.Kind.TheVariants.{Int32, Int64, Bool as Truth, Str, Raw}
pub use Rattle.mega_base.specs.ListWords.{numbered as property_at}
use Rattle.mega_syntax.specs.declared.need.Need.{Need}
use Rattle.mega_syntax.specs.declared.need.Need.TheVariants.{Required, Repeated}
use Rattle.mega_schema.specs.declared.schema.Property.{Property}
use Rattle.mega_schema.specs.declared.schema.Table.{Table}
use Rattle.mega_syntax.specs.declared.words.PropertyWords.{PropertyWords}
use Rattle.mega_syntax.specs.declared.words.Clause.{Clause}
use Rattle.mega_syntax.specs.declared.words.Clause.TheVariants.{Inside, Group}
use Rattle.mega_syntax.specs.Names.{same, named}

-- the kind that a type's word names
abbrev pub kind_of : List ℕ → Option Kind
kind_of word = named word (
    (codes "int32", Int32) ∷ (codes "int64", Int64) ∷ (codes "bool", Truth) ∷ (codes "string", Str) ∷ (codes "bytes", Raw) ∷ [])

abbrev pub is_required : Need → Bool
is_required Required = true
is_required _ = false

abbrev pub is_repeated : Need → Bool
is_repeated Repeated = true
is_repeated _ = false

-- one of the names is this one
abbrev pub is_among : List (List ℕ) → List ℕ → Bool
is_among names n = list_any (λ m. same m n) names

-- some name stands twice
abbrev pub stands_twice : List (List ℕ) → Bool
stands_twice [] = false
stands_twice (n ∷ ns) = is_among ns n || stands_twice ns

-- a statement's property of this name
abbrev pub words_named : List PropertyWords → List ℕ → Option PropertyWords
words_named ps n = find (λ p. same p.name n) ps

-- a table's property of this name, and its place
abbrev pub property_named : List Property → List ℕ → Option Property
property_named ps n = find (λ p. same p.name n) ps

abbrev pub property_place : List Property → List ℕ → Option ℕ
property_place ps n = position (λ p. same p.name n) ps

-- the table of this name, and its place
abbrev pub table_named : List Table → List ℕ → Option Table
table_named ts n = find (λ t. same t.name n) ts

abbrev pub table_place : List Table → List ℕ → Option ℕ
table_place ts n = position (λ t. same t.name n) ts

-- the number of the item at a place, counted from 1; 0 where there is none, or none with a number of one byte
abbrev pub number_of_place : Option ℕ → ℕ
number_of_place None = 0
number_of_place (Some i) = if nat_lt i 255 then i + 1 else 0

abbrev pub table_number : List Table → List ℕ → ℕ
table_number tables name = number_of_place (table_place tables name)

abbrev pub property_number : List Property → List ℕ → ℕ
property_number properties name = number_of_place (property_place properties name)

-- the properties of a table, if there is one
abbrev pub properties_in : Option Table → List Property
properties_in None = []
properties_in (Some table) = table.properties

-- a table is a root where it has no group key
abbrev pub is_root_table : Table → Bool
is_root_table t = elim t.group [ [] ↦ true | ◌∷◌ n ns ↦ false ]

-- the group key and the table referred to
abbrev pub group_of : List Clause → Option (List (List ℕ) × List ℕ)
group_of [] = None
group_of (Group ns n ∷ cs) = Some (ns, n)
group_of (_ ∷ cs) = group_of cs

-- the table that the rows stand in
abbrev pub inside_of : List Clause → Option (List ℕ)
inside_of [] = None
inside_of (Inside n ∷ cs) = Some n
inside_of (_ ∷ cs) = inside_of cs
