-- What a cleaning lets go: of each key in its range the versions that no read at a position or later can see.
use Rattle.std.specs.Prelude.{◌≡◌, ◌<◌, ◌≤◌, IsSome, ℕ, zero, suc, Bool, cond, if◌then◌else◌, nat_lt, is_some, List, Option, None}
use Rattle.std.specs.List.{list_any}
use Rattle.std.specs.Ordering.{nat_cmp, is_eq}
use Rattle.std.specs.declared.ops.Bound.TheVariants.{Included, Excluded}
use Rattle.std.specs.Cmp.Lexicographic.{slice_cmp}
use Rattle.std.specs.BTreeMap.Range.{range_contains}
use Rattle.mega_base.specs.declared.values.Row.{Row}
use Rattle.mega_disk.specs.VersionMaps.{Versions}

-- the greatest position at or below this one at which a version stands, 0 for none
abbrev pub floor : (ℕ → Option (Option Row)) → ℕ → ℕ
floor f zero = zero
floor f (suc p) = cond (is_some (f (suc p))) (suc p) (floor f p)

-- no version stands at or below a position
abbrev pub HasNone : (ℕ → Option (Option Row)) → ℕ → Type 0
HasNone f at = (q : ℕ) → q ≤ at → f q ≡ None

-- the greatest position at or below a position at which a version stands
pub record IsFloor (f : ℕ → Option (Option Row)) (at p : ℕ) : Type 0 where
  pub within : p ≤ at
  pub stands : IsSome (f p)
  pub none_later : (q : ℕ) → p < q → q ≤ at → f q ≡ None

-- one key's versions without those below the one that a read at `below` sees
abbrev pub trimmed : ℕ → (ℕ → Option (Option Row)) → ℕ → Option (Option Row)
trimmed below f p = if nat_lt p (floor f below) then None else f p

-- two keys are one
abbrev pub is_key : List ℕ → List ℕ → Bool
is_key key other = is_eq (slice_cmp nat_cmp key other)

-- the versions after those of these keys were trimmed
abbrev pub trimmed_keys : List (List ℕ) → ℕ → Versions → Versions
trimmed_keys keys below versions key p = if list_any (λ other. is_key other key) keys then trimmed below (versions key) p else versions key p

-- a key is at or after the one and before the other
abbrev pub is_within : List ℕ → List ℕ → List ℕ → Bool
is_within from to key = range_contains (slice_cmp nat_cmp) (Included from) (Excluded to) key

-- the versions after those of a range of keys were trimmed
abbrev pub cleaned_range : List ℕ → List ℕ → ℕ → Versions → Versions
cleaned_range from to below versions key p = if is_within from to key then trimmed below (versions key) p else versions key p
