-- The order of values: numbers by value, false before true, texts and bytes by their bytes.
use Rattle.std.specs.Prelude.{List}
use Rattle.std.specs.declared.cmp.Ordering.{Ordering}
use Rattle.std.specs.declared.cmp.Ordering.TheVariants.{Equal}
use Rattle.std.specs.Ordering.{nat_cmp, int_cmp, bool_cmp}
use Rattle.std.specs.Cmp.Lexicographic.{slice_cmp}
use Rattle.mega_base.specs.declared.values.Value.{Value}
use Rattle.mega_base.specs.declared.values.Value.TheVariants.{Int32, Int64, Bool as Truth, Str, Raw}

-- values of one kind
abbrev pub value_cmp : Value → Value → Ordering
value_cmp (Int32 z) (Int32 y) = int_cmp z y
value_cmp (Int64 z) (Int64 y) = int_cmp z y
value_cmp (Truth b) (Truth c) = bool_cmp b c
value_cmp (Str s) (Str t) = slice_cmp nat_cmp s t
value_cmp (Raw s) (Raw t) = slice_cmp nat_cmp s t
value_cmp _ _ = Equal

-- the first values that differ decide
abbrev pub values_cmp : List Value → List Value → Ordering
values_cmp vs ws = slice_cmp value_cmp vs ws
