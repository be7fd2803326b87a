-- Names in turn, and a map that finds them.
use Rattle.std.specs.Prelude.{◌≡◌, ℕ, Bool, false, ◌==◌, List, Option, Some, None, if◌then◌else◌, slice_get}
use Rattle.std.specs.List.{position_from}
use Rattle.std.specs.Ordering.{nat_cmp}
use Rattle.std.specs.Cmp.Lexicographic.{slice_cmp}
use Rattle.std.specs.BTreeMap.{BTreeMap, get}
use Rattle.mega_syntax.specs.Names.{same}

-- the place of the first of the names that is this one, from 0
abbrev pub place_of : List (List ℕ) → List ℕ → Option ℕ
place_of names n = position_from (λ m. same m n) 0 names

-- the map has the place of the first of each name, and nothing else
abbrev pub Finds : BTreeMap (List ℕ) ℕ → List (List ℕ) → Type 0
Finds map names = (n : List ℕ) → get (slice_cmp nat_cmp) map n ≡ place_of names n

-- the first place where there is one, else this place where the name is this one
abbrev pub or_place : Option ℕ → Bool → ℕ → Option ℕ
or_place (Some first) same_name place = Some first
or_place None same_name place = if same_name then Some place else None

-- the first place is this one
abbrev pub stands_at : Option ℕ → ℕ → Bool
stands_at None place = false
stands_at (Some first) place = first == place

-- what stands at the place, if there is one
abbrev pub at_place : {A : Type 0} → List A → Option ℕ → Option A
at_place xs None = None
at_place xs (Some place) = slice_get xs place
