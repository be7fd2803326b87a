-- Versions in memory, in the order in which they were put.
use Rattle.std.specs.Prelude.{◌≡◌, ◌⊎◌, zero, suc, ◌==◌, ◌&&◌, Bool, ℕ, List, [], ◌∷◌, Option, Some, None, if◌then◌else◌, nat_eq, nat_lt, nat_le, true}
use Rattle.std.specs.Cmp.Lexicographic.{pointwise, slice_cmp}
use Rattle.std.specs.Ordering.{nat_cmp}
use Rattle.std.specs.declared.cmp.Ordering.TheVariants.{Less, Greater}
use Rattle.mega_base.specs.declared.values.Row.{Row}
use Rattle.mega_disk.specs.declared.mem_versions.Version.{Version}
use Rattle.mega_disk.specs.VersionMaps.{Versions, Stored, HasRow, HasAscendingKeys, IsWithin, row_at}

-- the version of this key and position
abbrev pub is_version : Version → List ℕ → ℕ → Bool
is_version version key p = pointwise nat_eq version.key key && (version.at.0 == p)

-- the first version of a key at a position
abbrev pub version_in : List Version → List ℕ → ℕ → Option (Option Row)
version_in [] key p = None
version_in (version ∷ versions) key p = if is_version version key p then Some version.row else version_in versions key p

-- nothing outlives a crash
pub record IsNothing (found : Stored) : Type 0 where
  pub no_marks : found.marks ≡ []
  pub no_version : (key : List ℕ) (p : ℕ) → found.version key p ≡ None

-- the version stands above the best one so far
abbrev pub beats : Version → Option Version → Bool
beats version None = true
beats version (Some best) = nat_lt best.at.0 version.at.0

-- the version has this key, lies at or below the position, and stands above the best one so far
abbrev pub counts : Version → List ℕ → ℕ → Option Version → Bool
counts version key p best = pointwise nat_eq version.key key && (nat_le version.at.0 p && beats version best)

-- some row stands there under this key
abbrev pub HasKey : List (List ℕ × Row) → List ℕ → Type 0
HasKey rows key = (row : Row) × HasRow rows key row

abbrev pub IsLess : List ℕ → List ℕ × Row → Type 0
IsLess key one = slice_cmp nat_cmp one.0 key ≡ Less

-- the keys before the place are smaller, and the one there, if any, is greater
abbrev pub IsPlaceFor : List (List ℕ × Row) → List ℕ → ℕ → Type 0
IsPlaceFor [] key place = place ≡ 0
IsPlaceFor (one ∷ more) key zero = slice_cmp nat_cmp one.0 key ≡ Greater
IsPlaceFor (one ∷ more) key (suc place) = IsLess key one × IsPlaceFor more key place

-- the row joins the others, in order of key, or a row has its key already
pub record AddsRow (old : List (List ℕ × Row)) (key : List ℕ) (row : Row) (new : List (List ℕ × Row)) : Type 0 where
  pub ordered : HasAscendingKeys old → HasAscendingKeys new
  pub nothing_else : (k : List ℕ) (r : Row) → HasRow new k r → HasRow old k r ⊎ ((k ≡ key) × (r ≡ row))
  pub kept : (k : List ℕ) (r : Row) → HasRow old k r → HasRow new k r
  pub has : HasKey new key

-- the row of this key at the position joins the others, where the key is in the range and has one
pub record AddsVisible (version : Versions) (from to : List ℕ) (p : ℕ) (old : List (List ℕ × Row)) (key : List ℕ) (new : List (List ℕ × Row)) : Type 0 where
  pub ordered : HasAscendingKeys old → HasAscendingKeys new
  pub nothing_else : (k : List ℕ) (r : Row) → HasRow new k r → HasRow old k r ⊎ (IsWithin from to k × (row_at version k p ≡ Some r))
  pub kept : (k : List ℕ) (r : Row) → HasRow old k r → HasRow new k r
  pub has : (r : Row) → IsWithin from to key → row_at version key p ≡ Some r → HasKey new key
