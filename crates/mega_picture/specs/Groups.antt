-- The numbers by which a page names entity groups, from 1 in the order in which marks name them first.
use Rattle.std.specs.Prelude.{◌≡◌, ℕ, List, [], ◌∷◌, ◌++◌, Option, Some, None, unwrap_or, is_some, if◌then◌else◌}
use Rattle.std.specs.List.{position_from}
use Rattle.std.specs.Ordering.{nat_cmp}
use Rattle.std.specs.Cmp.Lexicographic.{slice_cmp}
use Rattle.std.specs.BTreeMap.{BTreeMap, get}
use Rattle.mega_syntax.specs.Names.{same}
use Rattle.mega_transcript.specs.declared.item.Item.{Item}
use Rattle.mega_transcript.specs.declared.item.Item.TheVariants as items

-- the key of the group that an item's mark names
abbrev pub key_in : Item → Option (List ℕ)
key_in (items.Valid node group position) = Some group.key
key_in (items.Invalid node group position) = Some group.key
key_in (items.Decide node group position entry) = Some group.key
key_in (items.Apply node group position) = Some group.key
key_in _ = None

-- the number of a group, where it has one
abbrev pub place_of : List (List ℕ) → List ℕ → Option ℕ
place_of keys key = position_from (λ other. same other key) 1 keys

-- the map has the numbers of the groups, and nothing else
abbrev pub Numbers : BTreeMap (List ℕ) ℕ → List (List ℕ) → Type 0
Numbers numbers keys = (key : List ℕ) → get (slice_cmp nat_cmp) numbers key ≡ place_of keys key

-- the number of a group, 0 for one that has none
abbrev pub number_in : List (List ℕ) → List ℕ → ℕ
number_in keys key = unwrap_or (place_of keys key) 0

-- the groups with one more, where it has no number yet
abbrev pub with_key : List (List ℕ) → List ℕ → List (List ℕ)
with_key keys key = if is_some (place_of keys key) then keys else keys ++ key ∷ []

abbrev pub with_named : List (List ℕ) → Option (List ℕ) → List (List ℕ)
with_named keys None = keys
with_named keys (Some key) = with_key keys key
