-- Versions of rows: a map from key and position to a row, or to none where the row was deleted there.
use Rattle.std.specs.Prelude.{◌≡◌, ◌≢◌, ◌⊎◌, ℕ, zero, suc, ◌<◌, ◌≤◌, List, [], ◌∷◌, Option, Some, None, cond, nat_eq}
use Rattle.std.specs.Ordering.{nat_cmp}
use Rattle.std.specs.declared.cmp.Ordering.TheVariants.{Less}
use Rattle.std.specs.Cmp.Lexicographic.{slice_cmp, pointwise}
pub use Rattle.std.specs.Option.{option_or as or_else}
use Rattle.mega_base.specs.declared.values.Row.{Row}
use Rattle.mega_base.specs.declared.names.GroupId.{GroupId}
use Rattle.mega_base.specs.declared.names.Position.{Position}

-- the version of a key at a position, where one stands there
abbrev pub Versions : Type 0
Versions = List ℕ → ℕ → Option (Option Row)

-- of one key's versions that of greatest position at or below this one
unfoldable pub version_at : (ℕ → Option (Option Row)) → ℕ → Option (Option Row)
version_at versions zero = versions zero
version_at versions (suc p) = or_else (versions (suc p)) (version_at versions p)

-- the row that a version holds; no version is no row
abbrev pub row_of : Option (Option Row) → Option Row
row_of None = None
row_of (Some row) = row

-- what a read of the key at a position sees
abbrev pub row_at : Versions → List ℕ → ℕ → Option Row
row_at versions key p = row_of (version_at (versions key) p)

-- the row of the version of greatest position, of one key's versions
abbrev pub IsLatest : (ℕ → Option (Option Row)) → Option Row → Type 0
IsLatest versions row =
    (((p : ℕ) → versions p ≡ None) × (row ≡ None))
    ⊎ ((p : ℕ) × (versions p ≡ Some row) × ((q : ℕ) → p < q → versions q ≡ None))

-- the key is at or after the one and before the other, in the order of bytes
abbrev pub IsWithin : List ℕ → List ℕ → List ℕ → Type 0
IsWithin from to key = (slice_cmp nat_cmp key from ≢ Less) × (slice_cmp nat_cmp key to ≡ Less)

-- each key is before the next
abbrev pub HasAscendingKeys : List (List ℕ × Row) → Type 0
HasAscendingKeys [] = Unit {0}
HasAscendingKeys (one ∷ []) = Unit {0}
HasAscendingKeys (one ∷ two ∷ more) = (slice_cmp nat_cmp one.0 two.0 ≡ Less) × HasAscendingKeys (two ∷ more)

-- the row stands there under this key
abbrev pub HasRow : List (List ℕ × Row) → List ℕ → Row → Type 0
HasRow [] key row = ⊥
HasRow (one ∷ more) key row = ((one.0 ≡ key) × (one.1 ≡ row)) ⊎ HasRow more key row

-- the rows of the range at a position, in order of key
pub record IsScan (versions : Versions) (from to : List ℕ) (p : ℕ) (rows : List (List ℕ × Row)) : Type 0 where
  pub ordered : HasAscendingKeys rows
  pub each : (key : List ℕ) (row : Row) → HasRow rows key row → IsWithin from to key × (row_at versions key p ≡ Some row)
  pub all : (key : List ℕ) (row : Row) → IsWithin from to key → row_at versions key p ≡ Some row → HasRow rows key row

-- the same versions
abbrev pub SameVersions : Versions → Versions → Type 0
SameVersions old new = (key : List ℕ) (p : ℕ) → new key p ≡ old key p

-- one version is set, in place of one that stood there
pub record Puts (key : List ℕ) (at : ℕ) (row : Option Row) (old new : Versions) : Type 0 where
  pub here : new key at ≡ Some row
  pub elsewhere : (other : List ℕ) (p : ℕ) → (other ≡ key → p ≡ at → ⊥) → new other p ≡ old other p

-- a range of keys, and the position below which reads of them may differ from then on
pub record Cleaned : Type 0 where
  pub from : List ℕ
  pub to : List ℕ
  pub below : ℕ

-- reads of this key at this position are not below a cleaning of a range that holds the key
abbrev pub IsAbove : List Cleaned → List ℕ → ℕ → Type 0
IsAbove [] key p = Unit {0}
IsAbove (c ∷ cleaned) key p = (IsWithin c.from c.to key → c.below ≤ p) × IsAbove cleaned key p

-- versions were dropped that no read above the cleanings can see, and no others
pub record Drops (cleaned : List Cleaned) (old new : Versions) : Type 0 where
  pub nothing_new : (key : List ℕ) (p : ℕ) (row : Option Row) → new key p ≡ Some row → old key p ≡ Some row
  pub kept : (key : List ℕ) (p : ℕ) → IsAbove cleaned key p → new key p ≡ old key p
  pub reads : (key : List ℕ) (p : ℕ) → IsAbove cleaned key p → version_at (new key) p ≡ version_at (old key) p

-- positions through which the versions of groups were put
abbrev pub Marks : Type 0
Marks = List (GroupId × Position)

-- the position of the first mark of the group, 0 where it has none
abbrev pub mark_of : GroupId → Marks → ℕ
mark_of group [] = 0
mark_of group (mark ∷ marks) = cond (pointwise nat_eq group.key mark.0.key) (mark.1).0 (mark_of group marks)

-- what a store on a device opens to
pub record Stored : Type 0 where
  pub marks : Marks
  pub version : Versions

-- these marks, and the versions but for those that the cleanings let go
pub record IsSpilled (marks : Marks) (cleaned : List Cleaned) (version : Versions) (found : Stored) : Type 0 where
  pub same_marks : found.marks ≡ marks
  pub drops : Drops cleaned version found.version
