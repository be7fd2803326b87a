-- JSON whose texts are UTF-8, whose integers have 64 bits, and whose names ascend in each object.
use Rattle.std.specs.Prelude.{◌≡◌, ℕ, ◌^◌, ◌<◌, pos, negsuc, List}
use Rattle.std.specs.declared.cmp.Ordering.TheVariants.{Less}
use Rattle.std.specs.Ordering.{nat_cmp}
use Rattle.std.specs.Cmp.Lexicographic.{slice_cmp}
use Rattle.std.specs.Str.{IsUtf8}
use Rattle.serde_json.specs.Data.{Num, unsigned, negative, float, Data, null, boolean, number, string, array, object, Items, no_items, item, Members, no_members, member}

abbrev pub IsWholeNumber : Num → Type 0
IsWholeNumber (unsigned n) = n < 2 ^ 64
IsWholeNumber (negative (pos n)) = ⊥
IsWholeNumber (negative (negsuc n)) = n < 2 ^ 63
IsWholeNumber (float x) = Unit {0}

-- the name is below the first
abbrev pub IsBelow : List ℕ → Members → Type 0
IsBelow k no_members = Unit {0}
IsBelow k (member l d ms) = slice_cmp nat_cmp k l ≡ Less

abbrev mutual
  pub IsWhole : Data → Type 0
  IsWhole null = Unit {0}
  IsWhole (boolean b) = Unit {0}
  IsWhole (number x) = IsWholeNumber x
  IsWhole (string s) = IsUtf8 s
  IsWhole (array ds) = AreWholeItems ds
  IsWhole (object ms) = AreWholeMembers ms

  pub AreWholeItems : Items → Type 0
  AreWholeItems no_items = Unit {0}
  AreWholeItems (item d ds) = IsWhole d × AreWholeItems ds

  pub AreWholeMembers : Members → Type 0
  AreWholeMembers no_members = Unit {0}
  AreWholeMembers (member k d ms) = IsUtf8 k × (IsWhole d × (IsBelow k ms × AreWholeMembers ms))
