-- A fuse that is set on the device below rows.
use Rattle.std.specs.Prelude.{◌≡◌, ℕ}
use Rattle.mega_disk.specs.Fuse.{set_to}
use Rattle.mega_disk.specs.Images.{SameImages}
use Rattle.mega_disk.specs.VersionMaps.{SameVersions}
use Rattle.mega_disk.specs.declared.versions.Versions.{Ghosts}

-- rows hold what they held before, and the device below them leaves after a crash what it would have left; its fuse has so many calls, where it
-- can have one
pub record FusesRows {V : Type 0} (store : Ghosts V) (calls : ℕ) (old new : V) : Type 0 where
  pub versions : SameVersions (store.version old) (store.version new)
  pub cleaned : store.cleaned new ≡ store.cleaned old
  pub marks : store.marked new ≡ store.marked old
  pub full : store.is_full new ≡ store.is_full old
  pub same : SameImages store.moment store.may_open store.opened_since old new
  pub faults : store.faults new ≡ store.faults old
  pub bad_stays : (n : ℕ) → store.is_bad new n → store.is_bad old n
  pub fuse : store.fuse_left new ≡ set_to calls (store.fuse_left old)
  pub by_fuse : store.fails_by_fuse new ≡ store.fails_by_fuse old
