-- The versions of all keys, as a map from key to the versions of that key by position.
use Rattle.std.specs.Prelude.{◌≡◌, ℕ, List, [], Option, Some, None, option_map}
use Rattle.std.specs.List.{filter_map}
use Rattle.std.specs.Ordering.{nat_cmp}
use Rattle.std.specs.Cmp.Lexicographic.{slice_cmp}
use Rattle.std.specs.BTreeMap.{BTreeMap, get}
use Rattle.mega_base.specs.declared.values.Row.{Row}
use Rattle.mega_disk.specs.VersionMaps.{Stored, Versions, row_of, version_at}

-- the versions of one key
abbrev pub Line : Type 0
Line = BTreeMap ℕ (Option Row)

-- a key that is not there has no versions
abbrev pub in_line : Option Line → ℕ → Option (Option Row)
in_line None p = None
in_line (Some line) p = get nat_cmp line p

abbrev pub version_in : BTreeMap (List ℕ) Line → Versions
version_in lines key p = in_line (get (slice_cmp nat_cmp) lines key) p

-- a key and its versions
abbrev pub Entry : Type 0
Entry = List ℕ × Line

abbrev pub seen_row : ℕ → Entry → Option (List ℕ × Row)
seen_row at e = option_map (λ (row : Row). (e.0, row)) (row_of (version_at (get nat_cmp e.1) at))

-- the rows that a read at a position sees of these entries
abbrev pub seen : ℕ → List Entry → List (List ℕ × Row)
seen at es = filter_map (seen_row at) es

-- an opening of what no device keeps finds nothing
abbrev pub FindsNothing : Stored → Type 0
FindsNothing found = (found.marks ≡ []) × ((key : List ℕ) (p : ℕ) → found.version key p ≡ None)
