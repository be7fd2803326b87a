-- What stays of one key's versions where those were let go that no read at a position or above sees.
use Rattle.std.specs.Prelude.{◌≡◌, ℕ, ◌≤◌, ◌==◌, if◌then◌else◌, Option, Some}
use Rattle.mega_base.specs.declared.values.Row.{Row}
use Rattle.mega_disk.specs.VersionMaps.{version_at}

-- the versions of one key
abbrev pub OneKey : Type 0
OneKey = ℕ → Option (Option Row)

-- all versions from a position on are there still, and reads from there on see what they saw
pub record KeepsFrom (below : ℕ) (all kept : OneKey) : Type 0 where
  pub versions : (p : ℕ) → below ≤ p → kept p ≡ all p
  pub reads : (p : ℕ) → below ≤ p → version_at kept p ≡ version_at all p

-- one version more, in place of one that stood there
abbrev pub put_at : ℕ → Option Row → OneKey → OneKey
put_at at row versions p = if at == p then Some row else versions p
